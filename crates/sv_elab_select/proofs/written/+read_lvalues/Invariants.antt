use Rattle.std.proofs.Common.{length}
use Rattle.sv_elab_select.proofs.written.+read_lvalues.Given as goal

abbrev pub decreases-read_lvalues : goal.decreases-read_lvalues
decreases-read_lvalues l = length l.spots.now
