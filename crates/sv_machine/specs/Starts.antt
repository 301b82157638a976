-- Processes that are taken (IEEE 1800-2017, 9.2.2.2).
use Rattle.std.specs.Prelude.{ℕ, ◌≡◌, ◌+◌, Bool, false, ◌&&◌, not, List, [], ◌∷◌, Option, None, Some, IsNone, slice_get, if◌then◌else◌}
use Rattle.sv_value.specs.declared.number.ProcessId.{ProcessId}
use Rattle.sv_flat.specs.declared.process.Process.{Process}
use Rattle.sv_flat.specs.declared.design.Parts.{Parts}
use Rattle.sv_flat.specs.Config.{Config, is_always_comb}
use Rattle.sv_flat.specs.Steps.{front, combs_started}
use Rattle.sv_sound.specs.Sound.{IsSound}
use Rattle.sv_sound.specs.After.{taken_off, taken_short, is_last}
use Rattle.sv_machine.specs.declared.machine.Machine.{Machine}
use Rattle.sv_machine.specs.Machine.{Stands, Tracks}

-- the `always_comb` that were not taken yet, from a number on
abbrev pub held_from : ℕ → List Process → List Bool → List ProcessId
held_from n (f ∷ fs) (t ∷ ts) = if is_always_comb f.kind && not t then record { 0 = n } ∷ held_from (n + 1) fs ts else held_from (n + 1) fs ts
held_from n _ _ = []

-- whether a process is an `always_comb` that was not taken yet
abbrev pub is_held : Process → Option Bool → Bool
is_held f None = false
is_held f (Some t) = is_always_comb f.kind && not t

-- that process, if it is one
abbrev pub held_at : ℕ → Process → Option Bool → List ProcessId
held_at n f t = if is_held f t then record { 0 = n } ∷ [] else []

-- in a configuration the process at a place of the front is taken, and the machine stands for it without that process
pub record Takes (d : Parts) (m : Machine) (p : ProcessId) (c : Config) (place : ℕ) : Type 0 where
  pub got : slice_get (front c).ready place ≡ Some p
  pub sound : IsSound d c
  pub going : IsNone c.fault
  pub idle : IsNone c.running
  pub fault : m.fault ≡ c.fault
  pub stands : Stands d m (taken_off place c)

-- there is such a configuration
pub record IsTaking (d : Parts) (m : Machine) (p : ProcessId) : Type 0 where
  pub config : Config
  pub place : ℕ
  pub takes : Takes d m p config place

-- whatever it is, the machine tracks what the taking makes of it
abbrev pub Begins : Parts → (old new : Machine) → ProcessId → Type 0
Begins d m n p = (c : Config) (place : ℕ) → Takes d m p c place → Tracks d n (combs_started d (is_last d place p c) (taken_short place p c))
