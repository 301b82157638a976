-- What parts break beside one another.
use Rattle.std.proofs.Common.{◌≡◌, List, Option, refl}
use Rattle.sv_names.specs.declared.checked.Fault.{Fault}
use Rattle.sv_names.specs.declared.checked.Checked.{Checked}
use Rattle.sv_names.specs.declared.checked.Checked.TheVariants.{Good, Broken}
use Rattle.sv_names.specs.Assignments.{Amount}
use Rattle.sv_names.specs.Checked.{both, given, ◌where_also◌}
use Rattle.sv_names.specs.Joined.{earlier_in}
use Rattle.sv_names.specs.Targets.{Spot}
use Rattle.sv_elab_assign.specs.declared.amount.Amount as amount
use Rattle.sv_elab_assign.specs.Amounts.{amount_if}
use Rattle.sv_elab_assign.specs.Wholes.{with_spots}

-- a delay that breaks a rule, and one that guards it
pub guarded_broken : (f : Fault) (r : Checked (Unit {0}))
    → let told : Checked (Option Amount) = Broken f in Broken (earlier_in f r) ≡ told where_also r
guarded_broken f (Good u) = refl
guarded_broken f (Broken g) = refl

-- a target that breaks no rule, and a delay
pub spots_first : (ss : List Spot) (d : Checked (Option Amount)) → given (with_spots ss) d ≡ both (Good ss) d
spots_first ss (Good d) = refl
spots_first ss (Broken g) = refl

-- a target that breaks a rule, and a delay
pub broken_first : (f : Fault) (d : Checked (Option amount.Amount))
    → let told : Checked (List Spot) = Broken f in Broken (earlier_in f d) ≡ both told (given amount_if d)
broken_first f (Good d) = refl
broken_first f (Broken g) = refl
