-- Two expressions that stand beside one another.
use Rattle.std.proofs.Common.{◌≡◌, refl}
use Rattle.sv_names.specs.declared.checked.Checked.{Checked}
use Rattle.sv_names.specs.declared.checked.Checked.TheVariants.{Good, Broken}
use Rattle.sv_names.specs.Checked.{both, only, ◌where_also◌}

-- what either breaks is what both break
pub both_stand : {A B : Type 0} (x : Checked A) (y : Checked B) → (only x where_also only y) ≡ only (both x y)
both_stand (Good x) (Good y) = refl
both_stand (Good x) (Broken g) = refl
both_stand (Broken f) (Good y) = refl
both_stand (Broken f) (Broken g) = refl
