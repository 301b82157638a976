use Rattle.std.proofs.Common.{length}
use Rattle.sv_elab_drive.proofs.drivers.+has_path.Given as goal

abbrev pub decreases-has_path : goal.decreases-has_path
decreases-has_path l = length l.list.now
