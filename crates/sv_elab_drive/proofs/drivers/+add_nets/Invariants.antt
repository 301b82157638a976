use Rattle.std.proofs.Common.{length}
use Rattle.sv_elab_drive.proofs.drivers.+add_nets.Given as goal

abbrev pub decreases-add_nets : goal.decreases-add_nets
decreases-add_nets l = length l.spots.now
