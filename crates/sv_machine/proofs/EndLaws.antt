-- The end of a body.
use Rattle.std.proofs.Common.{ℕ, ◌≡◌, ◌<◌, length, List, None, Some, refl, ap, subst, sym, ◌∙◌, ◌⊎◌, ⊎_elim, map, slice_set}
use Rattle.std.specs.Prelude.{Result, Ok, Err, OnOk, get_or}
use Rattle.sv_value.specs.declared.number.ProcessId.{ProcessId}
use Rattle.sv_value.specs.declared.place.Place.{Place}
use Rattle.sv_flat.specs.declared.process.Process.{Process}
use Rattle.sv_flat.specs.declared.process.ProcessKind.{ProcessKind}
use Rattle.sv_flat.specs.declared.process.ProcessKind.TheVariants as kind
use Rattle.sv_flat.specs.declared.design.Parts.{Parts}
use Rattle.sv_flat.specs.Process.{ProcessState, End, body_in}
use Rattle.sv_flat.specs.Config.{Config, process_at, first_process}
use Rattle.sv_flat.specs.Effects.{occurred}
use Rattle.sv_built.specs.Built.{IsBuilt}
use Rattle.sv_built.specs.Waits.{watched_by}
use Rattle.sv_sound.proofs.Weights.{got, there, within}
use Rattle.sv_sound.proofs.Occurs.{end_initial, end_always, end_always_ff, end_always_comb, end_assign, end_port}
use Rattle.sv_sound.proofs.Running.{ended_is}
use Rattle.sv_stack.specs.declared.frames.Frame.{Frame}
use Rattle.sv_stack.specs.Frames.{todos_of}
use Rattle.sv_machine.specs.declared.machine.Machine.{Machine}
use Rattle.sv_machine.specs.Machine.{Tracks, StandsFor}
use Rattle.sv_machine.specs.Steps.{IsOver, BeginsAgain, WaitsAgain, EndsAs}
use Rattle.sv_machine.proofs.EffectLaws.{map_set, running_is, over_tracks, remain_tracks, again_tracks}

-- a process with other entries
pub left_with : (d : Parts) (fs : List (List Frame)) (p : ℕ) (x : List Frame) → map (todos_of d) (slice_set fs p x) ≡ slice_set (map (todos_of d) fs) p (todos_of d x)
left_with d fs p x = map_set (todos_of d) fs p x

-- the process of the design is the one that the code reads
pub own_is : (d : Parts) (p : ProcessId) (f g : Process) → first_process d p ≡ Some f → get_or d.processes p.0 g ≡ g → g ≡ f
own_is d p f g e i = sym i ∙ got d.processes p.0 f g e

module _ (d : Parts) (b : IsBuilt d) (at : Place) (p : ProcessId) (m : Machine) (c : Config) (h : StandsFor d m c) (r : m.running ≡ Some p)
    (q : ProcessState) (is : process_at c p ≡ Some q) (n : Machine) where
  by_kind : (f : Process) → first_process d p ≡ Some f → f.program ≡ None → (k : ProcessKind) → f.kind ≡ k → EndsAs d f p k m n → Tracks d n (occurred d at p End c)
  by_kind f e g kind.Initial k x =
      subst (Tracks d n) (sym (end_initial d b.no_clockings at p c q is f e k g ∙ ended_is d c h.sound p (running_is d m c h p r) q is)) (over_tracks d m c h p r q is n x)
  by_kind f e g kind.Always k x =
      subst (Tracks d n) (sym (end_always d b.no_clockings at p c q is f e k)) (remain_tracks d m c h p r q is (body_in d f.body None) n x.is x.left)
  by_kind f e g kind.AlwaysFf k x =
      subst (Tracks d n) (sym (end_always_ff d b.no_clockings at p c q is f e k)) (remain_tracks d m c h p r q is (body_in d f.body None) n x.is x.left)
  by_kind f e g kind.AlwaysComb k x =
      subst (Tracks d n) (sym (end_always_comb d b.no_clockings at p c q is f e k)) (again_tracks d m c h p r q is f f.watched n (ap watched_by e) x)
  by_kind f e g kind.Assign k x =
      subst (Tracks d n) (sym (end_assign d b.no_clockings at p c q is f e k)) (again_tracks d m c h p r q is f f.watched n (ap watched_by e) x)
  by_kind f e g kind.Port k x =
      subst (Tracks d n) (sym (end_port d b.no_clockings at p c q is f e k)) (again_tracks d m c h p r q is f f.watched n (ap watched_by e) x)

  pub end_tracks : (f : Process) → first_process d p ≡ Some f → f.program ≡ None → EndsAs d f p f.kind m n → Tracks d n (occurred d at p End c)
  end_tracks f e g x = by_kind f e g f.kind refl x

-- the processes of the design are those with less numbers
pub first_there : (d : Parts) (p : ProcessId) → p.0 < length d.processes → (f : Process) × (first_process d p ≡ Some f)
first_there d p l = there d.processes p.0 l

pub first_not : (d : Parts) (p : ProcessId) (f : Process) → first_process d p ≡ Some f → p.0 < length d.processes
first_not d p f e = within d.processes p.0 f e

-- of what was told in two clauses
pub both_given : {A E : Type 0} (r : Result A E) (P Q R : Type 0) → (P → Q → R) → OnOk r P → OnOk r Q → OnOk r R
both_given (Ok x) P Q R go h k = go h k
both_given (Err e) P Q R go h k = h

pub initial_ends : (d : Parts) (f : Process) (p : ProcessId) (k : ProcessKind) (m n : Machine) → k ≡ kind.Initial → IsOver d p m n → EndsAs d f p k m n
initial_ends d f p k m n e x = subst (λ k. EndsAs d f p k m n) (sym e) x

pub always_ends : (d : Parts) (f : Process) (p : ProcessId) (k : ProcessKind) (m n : Machine) → (k ≡ kind.Always) ⊎ (k ≡ kind.AlwaysFf) → BeginsAgain d f p m n → EndsAs d f p k m n
always_ends d f p k m n e x = ⊎_elim (λ e. subst (λ k. EndsAs d f p k m n) (sym e) x) (λ e. subst (λ k. EndsAs d f p k m n) (sym e) x) e

pub watched_ends : (d : Parts) (f : Process) (p : ProcessId) (k : ProcessKind) (m n : Machine) → ((k ≡ kind.AlwaysComb) ⊎ ((k ≡ kind.Assign) ⊎ (k ≡ kind.Port))) → WaitsAgain d f p m n → EndsAs d f p k m n
watched_ends d f p k m n e x =
    ⊎_elim (λ e. subst (λ k. EndsAs d f p k m n) (sym e) x)
    (⊎_elim (λ e. subst (λ k. EndsAs d f p k m n) (sym e) x) (λ e. subst (λ k. EndsAs d f p k m n) (sym e) x)) e
