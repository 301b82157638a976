use Rattle.std.proofs.Common.{length}
use Rattle.sv_elab_clocking.proofs.rules.+push_names.Given as goal

abbrev pub decreases-push_names : goal.decreases-push_names
decreases-push_names l = length l.names.now
