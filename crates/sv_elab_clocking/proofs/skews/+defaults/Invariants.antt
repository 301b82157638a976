use Rattle.std.proofs.Common.{length}
use Rattle.sv_elab_clocking.proofs.skews.+defaults.Given as goal

abbrev pub decreases-defaults : goal.decreases-defaults
decreases-defaults l = length l.items.now
