use Rattle.std.proofs.Common.{◌≡◌, length}
use Rattle.sv_names.specs.Checked.{◌where_also◌}
use Rattle.sv_elab_whole.specs.Scales.{precisions_stand}
use Rattle.sv_elab_whole.proofs.scales.precisions_stand.Given as goal

abbrev pub invariant-loop-left : goal.invariant-loop-left
invariant-loop-left l = (l.guards where_also precisions_stand l.left) ≡ precisions_stand l.scales

abbrev pub decreases-loop-left : goal.decreases-loop-left
decreases-loop-left l = length l.left
