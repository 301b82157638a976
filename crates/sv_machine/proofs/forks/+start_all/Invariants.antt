use Rattle.std.proofs.Common.{length}
use Rattle.sv_machine.proofs.forks.+start_all.Given as goal

abbrev pub decreases-start_all : goal.decreases-start_all
decreases-start_all l = length l.routines.now
