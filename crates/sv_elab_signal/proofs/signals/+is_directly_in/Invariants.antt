use Rattle.std.proofs.Common.{length}
use Rattle.sv_elab_signal.proofs.signals.+is_directly_in.Given as goal

abbrev pub decreases-is_directly_in : goal.decreases-is_directly_in
decreases-is_directly_in l = length l.unit.now
