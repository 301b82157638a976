use Rattle.std.proofs.Common.{[], ◌≡◌, ◌++◌, map, length}
use Rattle.std.specs.Prelude.{flat_map}
use Rattle.sv_tree.specs.UnitView.{description}
use Rattle.sv_names.specs.Design.{declared_subroutines}
use Rattle.sv_names.specs.Instances.{outside}
use Rattle.sv_elab_whole.proofs.foreseen.add_outside.Given as goal

abbrev pub invariant-loop-left : goal.invariant-loop-left
invariant-loop-left l =
    l.list ++ flat_map (declared_subroutines []) (outside (map description l.left))
    ≡ l.initial.list ++ flat_map (declared_subroutines []) (outside (map description l.units))

abbrev pub decreases-loop-left : goal.decreases-loop-left
decreases-loop-left l = length l.left
