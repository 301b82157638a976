use Rattle.std.proofs.Common.{length}
use Rattle.sv_elab_select.proofs.behind.+hidden_of_spots.Given as goal

abbrev pub decreases-hidden_of_spots : goal.decreases-hidden_of_spots
decreases-hidden_of_spots l = length l.spots.now
