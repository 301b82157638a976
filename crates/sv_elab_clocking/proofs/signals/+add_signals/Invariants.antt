use Rattle.std.proofs.Common.{length}
use Rattle.sv_elab_clocking.proofs.signals.+add_signals.Given as goal

abbrev pub decreases-add_signals : goal.decreases-add_signals
decreases-add_signals l = length l.names.now
