-- What a map by names has at each name, once it is updated at one.
use Rattle.std.proofs.Common.{◌≡◌, ℕ, Bool, true, false, cond, List, Some, Ordering, Vec, refl, sym, ap, ◌∙◌}
use Rattle.std.specs.Ordering.{nat_cmp, is_eq}
use Rattle.std.specs.Cmp.{eq_by_cmp_equiv}
use Rattle.std.specs.Cmp.Lexicographic.{slice_cmp, texts_ties, bytes_decides, nat_list_cmp_total, nat_list_eq_equiv}
use Rattle.std.specs.Map.{KeepsOthers}
use Rattle.std.specs.BTreeMap.{BTreeMap, Updates}
use Rattle.sv_names.specs.Types.{same_bytes}
use Rattle.sv_names.specs.Index.{at_name}

-- keys are compared by their bytes
abbrev pub by_bytes : {A : Type 0} → Vec ℕ A → Vec ℕ A → Ordering
by_bytes a b = slice_cmp nat_cmp a.items b.items

apart : (x n k : List ℕ) → same_bytes n x ≡ false → is_eq (slice_cmp nat_cmp n k) ≡ true → is_eq (slice_cmp nat_cmp x k) ≡ false
apart x n k other same =
    sym (texts_ties x k) ∙ nat_list_eq_equiv.symm x k ∙ sym (nat_list_eq_equiv.congr n k x (texts_ties n k ∙ same)) ∙ other

pub updated : {A X : Type 0} (old new : BTreeMap (Vec ℕ A) X) (k : Vec ℕ A) (n : List ℕ) (v : X) → k.items ≡ n
    → Updates by_bytes old new k (Some v) → (x : List ℕ) → at_name x new ≡ cond (same_bytes n x) (Some v) (at_name x old)
unfolding KeepsOthers
updated old new k n v named updates x = by (same_bytes k.items x) refl ∙ ap (λ m. cond (same_bytes m x) (Some v) (at_name x old)) named
  where
    by : (b : Bool) → same_bytes k.items x ≡ b → at_name x new ≡ cond (same_bytes k.items x) (Some v) (at_name x old)
    by true e = ap (λ y. at_name y new) (sym ((bytes_decides k.items x).0 e)) ∙ updates.1 ∙ sym (ap (λ b. cond b (Some v) (at_name x old)) e)
    by false e =
        updates.3 (λ q. is_eq (slice_cmp nat_cmp x q.items)) (λ a b. (eq_by_cmp_equiv nat_list_cmp_total).congr x a.items b.items)
        (λ q. apart x k.items q.items e) ∙ sym (ap (λ b. cond b (Some v) (at_name x old)) e)
