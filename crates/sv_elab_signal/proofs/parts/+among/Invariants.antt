use Rattle.std.proofs.Common.{length}
use Rattle.sv_elab_signal.proofs.parts.+among.Given as goal

abbrev pub decreases-among : goal.decreases-among
decreases-among l = length l.list.now
