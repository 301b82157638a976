use Rattle.std.proofs.Common.{◌≡◌, map, length}
use Rattle.sv_tree.specs.UnitView.{instance, instances}
use Rattle.sv_names.specs.Checked.{◌where_also◌}
use Rattle.sv_names.specs.Items.{ports_alone}
use Rattle.sv_names.specs.Views.{around_in}
use Rattle.sv_elab_plain.proofs.instances.ports_alone.Given as goal

abbrev pub invariant-loop-left : goal.invariant-loop-left
invariant-loop-left l =
    (l.guards where_also ports_alone (around_in l.around) (map instance l.left)) ≡ ports_alone (around_in l.around) (instances l.of).list

abbrev pub decreases-loop-left : goal.decreases-loop-left
decreases-loop-left l = length l.left
