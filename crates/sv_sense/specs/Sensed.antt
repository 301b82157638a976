-- What is kept to find whom a change wakes.
use Rattle.std.specs.Prelude.{◌≡◌, ◌<◌, ◌≤◌, true, List, Option, Some, length, slice_index_or}
use Rattle.sv_value.specs.declared.number.ProcessId.{ProcessId}
use Rattle.sv_flat.specs.declared.design.Parts.{Parts}
use Rattle.sv_flat.specs.Effects.{is_in}
use Rattle.sv_built.specs.declared.wait.Wait.{Wait}
use Rattle.sv_assign.specs.Seen.{Change, Of_object, Of_variable}
use Rattle.sv_sense.specs.declared.waiter.Waiter.{Waiter}
use Rattle.sv_sense.specs.Objects.{wait_objects}
use Rattle.sv_sense.specs.Scoped.{IsStaticWait}
use Rattle.sv_sense.specs.Watchers.{Registered}
use Rattle.sv_sense.specs.Wakes.{wait_of}

-- for what each process waits and in which scope, for what it was registered last, who watches each object, who may watch variables
-- of activations, and all processes
pub record Sensed : Type 0 where
  pub waits : List (Option Waiter)
  pub known : List (Option Wait)
  pub watchers : List (List ProcessId)
  pub scoped : List ProcessId
  pub all : List ProcessId

-- those whom a change may wake, of these lists: the watchers of the object, where all watch one that the design has not; or those
-- that may watch variables of activations
abbrev pub hearers_in : (watchers : List (List ProcessId)) → (scoped all : List ProcessId) → Change → List ProcessId
hearers_in ls scoped all (Of_object w) = slice_index_or ls w.object.0 all
hearers_in ls scoped all (Of_variable n p x) = scoped

-- those whom a change may wake
abbrev pub hearers : Sensed → Change → List ProcessId
hearers s k = hearers_in s.watchers s.scoped s.all k

-- a process is among those that a change of what it waits for may wake
pub record IsFound (d : Parts) (p : ProcessId) (w : Wait) (s : Sensed) : Type 0 where
  pub objects : Registered p (wait_objects d w) s.watchers s.all
  pub variables : (IsStaticWait d w → ⊥) → is_in p s.scoped ≡ true

-- each process for which such a wait stands in a list is found
pub record AllFound {A : Type 0} (wait : A → Wait) (d : Parts) (ws : List (Option A)) (s : Sensed) : Type 0 where
  pub each : (p : ProcessId) (a : A) → wait_of p ws ≡ Some a → IsFound d p (wait a) s

-- who waits is found, and so is who was registered
pub record Covers (d : Parts) (s : Sensed) : Type 0 where
  pub known_count : length s.waits ≤ length s.known
  pub everyone : (p : ProcessId) → p.0 < length s.waits → is_in p s.all ≡ true
  pub waiting : AllFound (λ w. w.wait) d s.waits s
  pub registered : AllFound (λ w. w) d s.known s
