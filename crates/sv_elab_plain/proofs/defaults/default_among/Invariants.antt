use Rattle.std.proofs.Common.{◌≡◌, map, length}
use Rattle.sv_tree.specs.UnitView.{item}
use Rattle.sv_names.specs.Items.{default_in}
use Rattle.sv_elab_scope.specs.Rows.{group_in}
use Rattle.sv_elab_plain.proofs.defaults.default_among.Given as goal

abbrev pub invariant-loop-left : goal.invariant-loop-left
invariant-loop-left l = default_in (group_in l.group) (map item l.left) ≡ default_in (group_in l.group) (map item l.all)

abbrev pub decreases-loop-left : goal.decreases-loop-left
decreases-loop-left l = length l.left
