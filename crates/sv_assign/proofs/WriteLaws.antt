-- What the write of a place tells of all values (IEEE 1800-2017, 10.4).
use Rattle.std.proofs.Common.{◌≡◌, ℕ, ap, sym, ◌∙◌}
use Rattle.std.specs.Prelude.{Option, Some, None, Result, Ok, Err, OnOk, IfOk, IfSome, IfNone}
use Rattle.sv_value.specs.declared.number.ObjId.{ObjId}
use Rattle.sv_value.specs.declared.error.NoMemory.{NoMemory}
use Rattle.sv_flat.specs.State.{Store, Stored, value_at}
use Rattle.sv_flat.specs.Effects.Writes.{changed_at}
use Rattle.sv_store.specs.declared.change.Overwritten.{Overwritten}
use Rattle.sv_store.specs.Overwrites.{value_before, object_before}
use Rattle.sv_store.proofs.WriteLaws.{object_before-all, value_at-all}

one_told : (s n : Store) (p : ObjId) (f : Stored → Stored) (w : Overwritten) → n ≡ changed_at s p.0 f → w.object ≡ p
    → ((j : ℕ) → value_at s p j ≡ value_before w n j) → (o : ObjId) (j : ℕ) → value_at s o j ≡ object_before w n o j
one_told s n p f w new object told o j =
    let is : n ≡ changed_at s w.object.0 f = new ∙ ap (λ (q : ObjId). changed_at s q.0 f) (sym object) in
    object_before-all s f w (λ k. ap (λ (q : ObjId). value_at s q k) object ∙ told k ∙ ap (λ (m : Store). value_before w m k) is) o j
    ∙ ap (λ (m : Store). object_before w m o j) (sym is)

-- from what was overwritten, all values before the write
pub all_told : (s n : Store) (p : ObjId) (f : Stored → Stored) (r : Result (Option Overwritten) NoMemory) → OnOk r (n ≡ changed_at s p.0 f)
    → IfOk r (λ x. IfSome x (λ w. w.object ≡ p)) → IfOk r (λ x. IfSome x (λ w. (j : ℕ) → value_at s p j ≡ value_before w n j))
    → IfOk r (λ x. IfSome x (λ w. (o : ObjId) (j : ℕ) → value_at s o j ≡ object_before w n o j))
all_told s n p f (Ok (Some w)) new object told = one_told s n p f w new object told
all_told s n p f (Ok None) new object told = tt
all_told s n p f (Err e) new object told = tt

none_told : (s n : Store) (p : ObjId) (f : Stored → Stored) → n ≡ changed_at s p.0 f → ((j : ℕ) → value_at n p j ≡ value_at s p j)
    → (o : ObjId) (j : ℕ) → value_at n o j ≡ value_at s o j
none_told s n p f new same o j =
    ap (λ (m : Store). value_at m o j) new
    ∙ value_at-all s p f (λ k. ap (λ (m : Store). value_at m p k) (sym new) ∙ same k) o j

-- where nothing was overwritten, all values are as they were
pub all_same : (s n : Store) (p : ObjId) (f : Stored → Stored) (r : Result (Option Overwritten) NoMemory) → OnOk r (n ≡ changed_at s p.0 f)
    → IfOk r (λ x. IfNone x ((j : ℕ) → value_at n p j ≡ value_at s p j)) → IfOk r (λ x. IfNone x ((o : ObjId) (j : ℕ) → value_at n o j ≡ value_at s o j))
all_same s n p f (Ok (Some w)) new same = tt
all_same s n p f (Ok None) new same = none_told s n p f new same
all_same s n p f (Err e) new same = tt
