-- References to objects of classes.
use Rattle.std.proofs.Common.{◌≡◌, List, Option, Some, None, refl}
use Rattle.std.specs.Prelude.{if◌then◌else◌}
use Rattle.sv_names.specs.declared.around.ClassInfo.{ClassInfo}
use Rattle.sv_names.specs.declared.ty.Ty.{Ty}
use Rattle.sv_names.specs.declared.ty.Ty.TheVariants.{Class, Null}
use Rattle.sv_names.specs.Types.{Path, same_type}
use Rattle.sv_names.specs.Values.{common_reference}

-- two types that are neither null nor classes have a common one where they are one
pub plain_reference : (ks : List ClassInfo) (a b : Ty) → (a ≡ Null → ⊥) → ((p : Path) → a ≡ Class p → ⊥) → (b ≡ Null → ⊥)
    → (if same_type a b then Some a else None) ≡ common_reference ks a b
plain_reference ks Null b h k n = absurd (h refl)
plain_reference ks (Class p) b h k n = absurd (k p refl)
plain_reference ks a Null h k n = absurd (n refl)
plain_reference ks a b h k n = refl
