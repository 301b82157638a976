use Rattle.std.proofs.Common.{length}
use Rattle.sv_elab_select.proofs.targets.+widths.Given as goal

abbrev pub decreases-widths : goal.decreases-widths
decreases-widths l = length l.spots.now
