-- A change of a vector, and what it tells of what processes wait for (IEEE 1800-2017, 9.4.2).
use Rattle.std.specs.Prelude.{◌≡◌, ◌≢◌, ℕ, ℤ, pos, Bool, Option, None, Some, Ok, Err}
use Rattle.sv_value.specs.declared.number.ObjId.{ObjId}
use Rattle.sv_value.specs.declared.val.Val.TheVariants.{Bits}
use Rattle.sv_flat.specs.Eval.{Valued, known_index, low_place, vector_in}
use Rattle.sv_flat.specs.State.{Name, View}
use Rattle.sv_assign.specs.declared.seen.Before.{Before}
use Rattle.sv_sense.specs.declared.transition.Transition.{Transition}
use Rattle.sv_sense.specs.Wakes.{scenes_before, scenes_after}

-- the object has the one vector before, and the other one after; what no array is has not changed elsewhere
pub record IsSeen (t : Transition) (old new : View) : Type 0 where
  pub before : old.object t.object 0 ≡ Bits t.before
  pub after : new.object t.object 0 ≡ Bits t.after
  pub others : (o : ObjId) → o.0 ≢ t.object.0 → old.object o 0 ≡ new.object o 0

-- so it is seen from each scope, if it is told
abbrev pub IsTold : Option Transition → Before → Type 0
IsTold r b = (t : Transition) → r ≡ Some t → (scope : Option Name) → IsSeen t (scenes_before b scope) (scenes_after b scope)

-- ---- parts of it

-- the lowest place of a part, by its index (11.5.1)
abbrev pub lowest_place : (offset : ℤ) → (is_falling : Bool) → Option ℤ → Option ℤ
lowest_place offset is_falling None = None
lowest_place offset is_falling (Some i) = Some (low_place offset is_falling i)

-- a part whose index has this value begins at a place of the vector
abbrev pub BeginsAt : (offset : ℤ) → (is_falling : Bool) → Valued → ℕ → Type 0
BeginsAt offset is_falling (Ok y) n = lowest_place offset is_falling (known_index (vector_in y)) ≡ Some (pos n)
BeginsAt offset is_falling (Err k) n = ⊥
