use Rattle.std.proofs.Common.{length}
use Rattle.sv_elab_signal.proofs.sides.+some_output.Given as goal

abbrev pub decreases-some_output : goal.decreases-some_output
decreases-some_output l = length l.sides.now
