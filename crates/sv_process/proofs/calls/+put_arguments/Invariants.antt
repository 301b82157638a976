use Rattle.std.proofs.Common.{length}
use Rattle.sv_process.proofs.calls.+put_arguments.Given as goal

abbrev pub decreases-put_arguments : goal.decreases-put_arguments
decreases-put_arguments g l = length l.formals.now
