use Rattle.std.proofs.Common.{length}
use Rattle.sv_elab_flow.proofs.results.+result_from.Given as goal

abbrev pub decreases-result_from : goal.decreases-result_from
decreases-result_from l = length l.scopes.now
