use Rattle.std.proofs.Common.{◌≡◌, ◌++◌, true, false, map, length}
use Rattle.std.specs.Prelude.{flat_map}
use Rattle.sv_tree.specs.StmtView.{implied}
use Rattle.sv_tree.specs.UnitView.{port}
use Rattle.sv_names.specs.Instances.{port_entry, ports_from}
use Rattle.sv_elab_scope.specs.Views.{entry_in}
use Rattle.sv_elab_declare.specs.Ports.{ports_after}
use Rattle.sv_elab_declare.proofs.ports.add_ports.Given as goal

abbrev pub invariant-loop-left : goal.invariant-loop-left
invariant-loop-left l =
    map entry_in l.names ++ ports_after l.before (map port l.left)
    ≡ map entry_in l.initial.names ++ flat_map port_entry (ports_from true false (implied l.unwritten) (map port l.all))

abbrev pub decreases-loop-left : goal.decreases-loop-left
decreases-loop-left l = length l.left
