-- What a change leaves as it was: the values of all objects but one, or those of all objects; and each wait after it.
use Rattle.std.proofs.Common.{◌≡◌, ◌≢◌, ℕ, Bool, true, false, List, Option, refl, arith}
use Rattle.std.specs.Prelude.{◌==◌, if◌then◌else◌}
use Rattle.std.proofs.lemmas.Bool.Decides.{nat_tests}
use Rattle.sv_value.specs.declared.number.ObjId.{ObjId}
use Rattle.sv_value.specs.declared.val.Val.{Val}
use Rattle.sv_flat.specs.State.{Activation, Name, Store, View, value_at}
use Rattle.sv_store.specs.declared.change.Overwritten.{Overwritten}
use Rattle.sv_store.specs.Overwrites.{object_before, value_before}
use Rattle.sv_assign.specs.Seen.{Change, Of_object, Of_variable, change_in, view_before, view_in}
use Rattle.sv_assign.specs.declared.seen.Before.{Before}
use Rattle.sv_sense.specs.Wakes.{Scenes, scenes_before, scenes_after}

-- ---- what is seen

-- the values are the same, but for those of one object
pub record SameBut (o : ObjId) (old new : View) : Type 0 where
  pub object : (p : ObjId) → p.0 ≢ o.0 → old.object p ≡ new.object p
  pub variable : old.variable ≡ new.variable
  pub name : old.name ≡ new.name
  pub heap : old.heap ≡ new.heap
  pub now : old.now ≡ new.now
  pub unit : old.unit ≡ new.unit

-- the same objects are seen, at one time
pub record SeesSame (old new : View) : Type 0 where
  pub object : old.object ≡ new.object
  pub now : old.now ≡ new.now
  pub unit : old.unit ≡ new.unit

-- a write of an object changes the values of no other
pub object_changed : (w : Overwritten) (s : Store) (as' : List Activation) (now unit : ℕ) (scope : Option Name)
    → SameBut w.object (view_before (Of_object w) s as' now unit scope) (view_in s as' now unit scope)
object_changed w s as' now unit scope = record { object = λ p h. other p h; variable = refl; name = refl; heap = refl; now = refl; unit = refl }
  where
    other : (p : ObjId) → p.0 ≢ w.object.0 → object_before w s p ≡ value_at s p
    other p h i j = at_test (p.0 == w.object.0) refl i
      where
        at_test : (b : Bool) → (p.0 == w.object.0) ≡ b → (if b then value_before w s j else value_at s p j) ≡ value_at s p j
        at_test true e = absurd (h (grind (arith, nat_tests)))
        at_test false e = refl

-- a write of a variable of an activation changes no object
pub variable_changed : (n : Name) (p : ℕ) (x : Val) (s : Store) (as' : List Activation) (now unit : ℕ) (scope : Option Name)
    → SeesSame (view_before (Of_variable n p x) s as' now unit scope) (view_in s as' now unit scope)
variable_changed n p x s as' now unit scope = record { object = refl; now = refl; unit = refl }

-- these were seen before a change, and those after it
abbrev pub IsChange : Change → Scenes → Scenes → Type 0
IsChange (Of_object w) old new = (scope : Option Name) → SameBut w.object (old scope) (new scope)
IsChange (Of_variable n p x) old new = (scope : Option Name) → SeesSame (old scope) (new scope)

pub is_change : (b : Before) → IsChange (change_in b.change.now) (scenes_before b) (scenes_after b)
is_change b = by_change (change_in b.change.now)
  where
    by_change : (k : Change) → IsChange k (λ scope. view_before k b.store.now b.activations.now.activations b.time b.unit scope) (scenes_after b)
    by_change (Of_object w) = object_changed w b.store.now b.activations.now.activations b.time b.unit
    by_change (Of_variable n p x) = variable_changed n p x b.store.now b.activations.now.activations b.time b.unit
