use Rattle.std.proofs.Common.{length}
use Rattle.sv_process.proofs.leaves.+put_outputs.Given as goal

abbrev pub decreases-put_outputs : goal.decreases-put_outputs
decreases-put_outputs g l = length l.formals.now
