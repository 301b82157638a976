-- Classes by their numbers, and those that they are derived from.
use Rattle.std.proofs.Common.{arith, ◌≡◌, ℕ, zero, suc, ◌+◌, ◌-◌, ◌<◌, ◌≤◌, false, Option, Some, None, length, refl, sym, ap, subst, ◌∙◌}
use Rattle.std.specs.Prelude.{get_or, slice_index_or, ◌==◌, ◌||◌}
use Rattle.std.proofs.Math.Numerals.{add-one}
use Rattle.std.proofs.lemmas.List.{get_or_default, get_or_past}
use Rattle.sv_value.specs.declared.number.ClassId.{ClassId}
use Rattle.sv_flat.specs.declared.class.Class.{Class}
use Rattle.sv_flat.specs.declared.design.Parts.{Parts}
use Rattle.sv_flat.specs.Classes.{class_of, no_class, derived_within}

-- the class with a number
pub class_at : (d : Parts) (k : ℕ) (c : ClassId) (x : Class) → k ≡ c.0 → k < length d.classes → x ≡ get_or d.classes k x
    → x ≡ class_of d c
class_at d k c x number within is =
    is ∙ get_or_default d.classes k x no_class within ∙ ap (λ (m : ℕ). slice_index_or d.classes m no_class) number

-- no class has so high a number
pub class_past : (d : Parts) (k : ℕ) (c : ClassId) → k ≡ c.0 → length d.classes ≤ k → no_class ≡ class_of d c
class_past d k c number past =
    sym (get_or_past d.classes k no_class past) ∙ ap (λ (m : ℕ). slice_index_or d.classes m no_class) number

-- ---- classes that a class is derived from

module _ (d : Parts) (b : ClassId) where
  -- a class, or those above it
  above : (n : ℕ) (c : ClassId) → derived_within (n + 1) d (Some c) b ≡ ((c.0 == b.0) || derived_within n d (class_of d c).base b)
  above n c = subst (λ (m : ℕ). derived_within m d (Some c) b ≡ ((c.0 == b.0) || derived_within n d (class_of d c).base b)) (sym (add-one n)) refl

  -- no class stands above it
  pub found_none : (n : ℕ) (c : ClassId) → 0 < n → (c.0 == b.0) ≡ false → None ≡ (class_of d c).base
      → false ≡ derived_within (n + 1) d (Some c) b
  found_none zero c some other none = absurd (omega (arith, some))
  found_none (suc n) c some other none =
      ap (λ (o : Option ClassId). derived_within (suc n) d o b) none
      ∙ sym (above (suc n) c ∙ ap (λ q. q || derived_within (suc n) d (class_of d c).base b) other)

  -- one class further up
  pub one_above : (n : ℕ) (c a : ClassId) → 0 < n → (c.0 == b.0) ≡ false → Some a ≡ (class_of d c).base
      → derived_within (n - 1 + 1) d (Some a) b ≡ derived_within (n + 1) d (Some c) b
  one_above n c a some other is =
      let same : n - 1 + 1 ≡ n = omega (arith, some) in
      (λ i. derived_within (same i) d (is i) b)
      ∙ sym (above n c ∙ ap (λ q. q || derived_within n d (class_of d c).base b) other)
