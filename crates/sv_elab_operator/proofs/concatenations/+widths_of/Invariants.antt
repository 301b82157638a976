use Rattle.std.proofs.Common.{length}
use Rattle.sv_elab_operator.proofs.concatenations.+widths_of.Given as goal

abbrev pub decreases-widths_of : goal.decreases-widths_of
decreases-widths_of l = length l.parts.now
