use Rattle.std.proofs.Common.{length}
use Rattle.sv_elab_clocking.proofs.signals.+add_all.Given as goal

abbrev pub decreases-add_all : goal.decreases-add_all
decreases-add_all l = length l.items.now
