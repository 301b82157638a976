use Rattle.std.proofs.Common.{◌≡◌, ◌++◌, map, length}
use Rattle.sv_tree.specs.UnitView.{instance}
use Rattle.sv_elab_declare.specs.Units.{instance_names}
use Rattle.sv_elab_scope.specs.Views.{entry_in}
use Rattle.sv_elab_declare.proofs.units.add_instances.Given as goal

abbrev pub invariant-loop-left : goal.invariant-loop-left
invariant-loop-left l =
    map entry_in l.names ++ instance_names (map instance l.left)
    ≡ map entry_in l.initial.names ++ instance_names (map instance l.all)

abbrev pub decreases-loop-left : goal.decreases-loop-left
decreases-loop-left l = length l.left
