-- What a write leaves (IEEE 1800-2017, 10.4).
use Rattle.std.proofs.Common.{◌≡◌, ℕ, [], Bool, true, false, cond, refl, ap, sym, ◌∙◌, arith}
use Rattle.std.specs.Prelude.{◌==◌}
use Rattle.std.proofs.lemmas.Bool.Decides.{nat_tests}
use Rattle.sv_value.specs.declared.val.Val.{Val}
use Rattle.sv_value.specs.declared.number.ObjId.{ObjId}
use Rattle.sv_flat.specs.State.{Store, Stored, Elements, element_of, value_at}
use Rattle.sv_flat.specs.Effects.Writes.{changed_at}
use Rattle.sv_store.specs.declared.change.Overwritten.{Overwritten}
use Rattle.sv_store.specs.Objects.{stored_at}
use Rattle.sv_store.specs.Overwrites.{value_before, object_before}
use Rattle.sv_store.proofs.SlotLemmas.{changed_at-other}

-- a write of an object leaves what any other one holds
pub stored_at-other : (s : Store) (o n : ObjId) (f : Stored → Stored) → (n.0 ≡ o.0 → ⊥) → stored_at (changed_at s o.0 f) n ≡ stored_at s n
stored_at-other s o n f h = changed_at-other s o.0 n.0 f (Elements []) h

-- and its values
pub value_at-other : (s : Store) (o n : ObjId) (f : Stored → Stored) (j : ℕ) → (n.0 ≡ o.0 → ⊥) → value_at (changed_at s o.0 f) n j ≡ value_at s n j
value_at-other s o n f j h = ap (λ (x : Stored). element_of x j) (stored_at-other s o n f h)

before_by : (a b : ℕ) (t : Bool) (x y z : Val) → t ≡ (a == b) → (a ≡ b → x ≡ y) → ((a ≡ b → ⊥) → x ≡ z) → x ≡ cond t y z
before_by a b true x y z e p q = p (grind (arith, nat_tests))
before_by a b false x y z e p q = q (λ same. grind (arith, nat_tests))

-- all values before a write, where it tells those of the object that it wrote
pub object_before-all : (s : Store) (f : Stored → Stored) (w : Overwritten) → ((j : ℕ) → value_at s w.object j ≡ value_before w (changed_at s w.object.0 f) j)
    → (o : ObjId) (j : ℕ) → value_at s o j ≡ object_before w (changed_at s w.object.0 f) o j
object_before-all s f w told o j =
    before_by o.0 w.object.0 (o.0 == w.object.0) (value_at s o j) (value_before w (changed_at s w.object.0 f) j) (value_at (changed_at s w.object.0 f) o j) refl
    (λ e. ap (λ (n : ℕ). value_at s (record { 0 = n }) j) e ∙ told j)
    (λ h. sym (value_at-other s w.object o f j h))

same_by : (a b : ℕ) (t : Bool) {A : Type 0} (x y : A) → t ≡ (a == b) → (a ≡ b → x ≡ y) → ((a ≡ b → ⊥) → x ≡ y) → x ≡ y
same_by a b true x y e p q = p (grind (arith, nat_tests))
same_by a b false x y e p q = q (λ same. grind (arith, nat_tests))

-- all values are as they were, where those of the object that was written are
pub value_at-all : (s : Store) (p : ObjId) (f : Stored → Stored) → ((j : ℕ) → value_at (changed_at s p.0 f) p j ≡ value_at s p j)
    → (o : ObjId) (j : ℕ) → value_at (changed_at s p.0 f) o j ≡ value_at s o j
value_at-all s p f same o j =
    same_by o.0 p.0 (o.0 == p.0) (value_at (changed_at s p.0 f) o j) (value_at s o j) refl
    (λ e. ap (λ (n : ℕ). value_at (changed_at s p.0 f) (record { 0 = n }) j) e ∙ same j ∙ ap (λ (n : ℕ). value_at s (record { 0 = n }) j) (sym e))
    (λ h. value_at-other s p o f j h)
