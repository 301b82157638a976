use Rattle.std.proofs.Common.{length}
use Rattle.sv_elab_before.proofs.bases.+needs_arguments.Given as goal

abbrev pub decreases-needs_arguments : goal.decreases-needs_arguments
decreases-needs_arguments l = length l.formals.now
