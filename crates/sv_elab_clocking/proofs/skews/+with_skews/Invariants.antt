use Rattle.std.proofs.Common.{length}
use Rattle.sv_elab_clocking.proofs.skews.+with_skews.Given as goal

abbrev pub decreases-with_skews : goal.decreases-with_skews
decreases-with_skews l = length l.sides.now
