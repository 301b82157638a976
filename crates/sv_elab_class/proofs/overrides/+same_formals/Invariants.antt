use Rattle.std.proofs.Common.{length}
use Rattle.sv_elab_class.proofs.overrides.+same_formals.Given as goal

abbrev pub decreases-same_formals : goal.decreases-same_formals
decreases-same_formals l = length l.a.now
