use Rattle.std.proofs.Common.{length}
use Rattle.sv_elab_connect.proofs.stands.+connections_stand.Given as goal

abbrev pub decreases-connections_stand : goal.decreases-connections_stand
decreases-connections_stand l = length l.all.now
