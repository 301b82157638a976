use Rattle.std.proofs.Common.{length}
use Rattle.sv_assign.proofs.values.+total_width.Given as goal

abbrev pub decreases-total_width : goal.decreases-total_width
decreases-total_width l = length l.targets.now
