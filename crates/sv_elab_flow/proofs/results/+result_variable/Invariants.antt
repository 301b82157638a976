use Rattle.std.proofs.Common.{length}
use Rattle.sv_elab_flow.proofs.results.+result_variable.Given as goal

abbrev pub decreases-result_variable : goal.decreases-result_variable
decreases-result_variable l = length l.known.now
