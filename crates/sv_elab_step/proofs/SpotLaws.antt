-- The parts of a concatenation as targets do not depend on how they are grouped.
use Rattle.std.proofs.Common.{◌≡◌, List, [], Option, Some, None, refl, ap}
use Rattle.sv_names.specs.declared.checked.Checked.{Checked}
use Rattle.sv_names.specs.declared.checked.Checked.TheVariants.{Good}
use Rattle.sv_names.specs.Expressions.{more_spots}
use Rattle.sv_names.specs.Joined.{joined}
use Rattle.sv_names.specs.Targets.{Spot}
use Rattle.sv_names.proofs.Joined.{joined_grouped, joined_last, joined_first}

-- parts, one more behind them, and what follows
pub spots_grouped : (a b : Checked (List Spot)) (r : Option (Checked (List Spot)))
    → more_spots (Some (joined a b)) r ≡ more_spots (Some a) (more_spots (Some b) r)
spots_grouped a b None = refl
spots_grouped a b (Some c) = ap Some (joined_grouped a b c)

-- nothing stands before, or behind
pub spots_first : (r : Option (Checked (List Spot))) → more_spots (Some (Good [])) r ≡ r
spots_first None = refl
spots_first (Some c) = ap Some (joined_first c)

pub spots_last : (a : Checked (List Spot)) → more_spots (Some a) (Some (Good [])) ≡ Some a
spots_last a = ap Some (joined_last a)
