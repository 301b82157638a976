use Rattle.std.proofs.Common.{length}
use Rattle.sv_elab_before.proofs.objects.+result_in.Given as goal

abbrev pub decreases-result_in : goal.decreases-result_in
decreases-result_in l = length l.known.now
