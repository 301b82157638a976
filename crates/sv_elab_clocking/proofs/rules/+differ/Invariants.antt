use Rattle.std.proofs.Common.{length}
use Rattle.sv_elab_clocking.proofs.rules.+differ.Given as goal

abbrev pub decreases-differ : goal.decreases-differ
decreases-differ l = length l.names.now
