use Rattle.std.proofs.Common.{length}
use Rattle.sv_elab_select.proofs.targets.+none_moves.Given as goal

abbrev pub decreases-none_moves : goal.decreases-none_moves
decreases-none_moves l = length l.places.now
