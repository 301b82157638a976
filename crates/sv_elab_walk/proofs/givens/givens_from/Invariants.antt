use Rattle.std.proofs.Common.{◌≡◌, ◌++◌, ◌-◌, ◌≤◌, map, length}
use Rattle.sv_tree.specs.UnitView.{connection}
use Rattle.sv_names.specs.Instances as instances
use Rattle.sv_names.specs.Views.{around_in}
use Rattle.sv_elab_unit.specs.Definitions.{names_in}
use Rattle.sv_elab_walk.specs.Givens.{kept_in}
use Rattle.sv_elab_walk.proofs.givens.givens_from.Given as goal

abbrev pub invariant-loop-left : goal.invariant-loop-left
invariant-loop-left l =
    (length l.left ≤ length l.all)
    × (kept_in l.list
    ++ instances.givens_from (around_in l.around) (names_in l.names) (length l.all - length l.left) (map connection l.left)
    ≡ instances.givens_from (around_in l.around) (names_in l.names) 0 (map connection l.all))

abbrev pub decreases-loop-left : goal.decreases-loop-left
decreases-loop-left l = length l.left
