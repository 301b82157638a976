use Rattle.std.proofs.Common.{length}
use Rattle.sv_elab_member.proofs.flat.+add_line.Given as goal

abbrev pub decreases-add_line : goal.decreases-add_line
decreases-add_line l = length l.line.now
