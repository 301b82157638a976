use Rattle.std.proofs.Common.{◌≡◌, ◌++◌, map, length}
use Rattle.sv_tree.specs.UnitView.{net, net_item}
use Rattle.sv_elab_declare.specs.Units.{net_names}
use Rattle.sv_elab_scope.specs.Views.{entry_in}
use Rattle.sv_elab_declare.proofs.units.add_nets.Given as goal

abbrev pub invariant-loop-left : goal.invariant-loop-left
invariant-loop-left l =
    map entry_in l.names ++ net_names (net l.of) (map net_item l.left)
    ≡ map entry_in l.initial.names ++ net_names (net l.of) (map net_item l.of.names.items)

abbrev pub decreases-loop-left : goal.decreases-loop-left
decreases-loop-left l = length l.left
