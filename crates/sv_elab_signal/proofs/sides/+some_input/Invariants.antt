use Rattle.std.proofs.Common.{length}
use Rattle.sv_elab_signal.proofs.sides.+some_input.Given as goal

abbrev pub decreases-some_input : goal.decreases-some_input
decreases-some_input l = length l.sides.now
