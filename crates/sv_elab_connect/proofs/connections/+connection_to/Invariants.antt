use Rattle.std.proofs.Common.{length}
use Rattle.sv_elab_connect.proofs.connections.+connection_to.Given as goal

abbrev pub decreases-connection_to : goal.decreases-connection_to
decreases-connection_to l = length l.all.now
