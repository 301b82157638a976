use Rattle.std.proofs.Common.{length}
use Rattle.sv_elab_connect.proofs.connections.+star_of.Given as goal

abbrev pub decreases-star_of : goal.decreases-star_of
decreases-star_of l = length l.all.now
