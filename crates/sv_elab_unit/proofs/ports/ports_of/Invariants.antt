use Rattle.std.proofs.Common.{◌≡◌, ◌++◌, true, false, map, length}
use Rattle.sv_tree.specs.StmtView.{implied}
use Rattle.sv_tree.specs.UnitView.{port}
use Rattle.sv_names.specs.Instances.{ports_from}
use Rattle.sv_elab_unit.specs.Ports.{port_in}
use Rattle.sv_elab_unit.proofs.ports.ports_of.Given as goal

abbrev pub invariant-loop-left : goal.invariant-loop-left
invariant-loop-left l =
    map port_in l.list ++ ports_from l.is_input l.is_wire (implied l.ty) (map port l.left)
    ≡ ports_from true false (implied l.unwritten) (map port l.of.ports.items)

abbrev pub decreases-loop-left : goal.decreases-loop-left
decreases-loop-left l = length l.left
