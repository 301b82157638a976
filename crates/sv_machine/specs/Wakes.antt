-- Whom a change lets go on (IEEE 1800-2017, 9.4.2).
use Rattle.std.specs.Prelude.{ℕ, ◌≡◌, ◌<◌, ◌+◌, List, [], ◌∷◌, Option, is_some, slice_get, if◌then◌else◌}
use Rattle.sv_value.specs.declared.number.ProcessId.{ProcessId}
use Rattle.sv_value.specs.declared.schedule.Side.{Side}
use Rattle.sv_value.specs.Regions.{Regions, ready_in, front_of}
use Rattle.sv_flat.specs.declared.design.Parts.{Parts}
use Rattle.sv_fork.specs.Tree.{Member, side_of}
use Rattle.sv_sense.specs.declared.waiter.Waiter.{Waiter}
use Rattle.sv_sense.specs.Wakes.{Scenes, fires_at, waits_after, woken_from}
use Rattle.sv_sense.specs.Sensed.{Sensed, Covers}

-- the side of the process with a number
abbrev pub side_at : List Member → ProcessId → Side
side_at ms p = side_of (slice_get ms p.0)

-- these processes become ready on their sides, one behind the other
abbrev pub all_ready : List Member → List ProcessId → Regions → Regions
all_ready ms [] r = r
all_ready ms (p ∷ ps) r = all_ready ms ps (ready_in (front_of (side_at ms p)) p r)

-- the weight of those that wait for a change, from a number on
abbrev pub waits_weight : (ProcessId → ℕ) → ℕ → List (Option Waiter) → ℕ
waits_weight w n [] = 0
waits_weight w n (x ∷ xs) = (if is_some x then w (record { 0 = n }) else 0) + waits_weight w (n + 1) xs

-- one of so many processes
abbrev pub IsKnown : ℕ → ProcessId → Type 0
IsKnown n p = p.0 < n

-- those for whose wait the change from these values to those fires wait no longer, and are ready
pub record Wakes (d : Parts) (ms : List Member) (old new : Scenes) (waiting : Sensed) (before : Regions) (left : Sensed) (after : Regions) : Type 0 where
  pub waits : left.waits ≡ waits_after (fires_at d old new) waiting.waits
  pub regions : after ≡ all_ready ms (woken_from (fires_at d old new) 0 waiting.waits) before
  pub covers : Covers d left
