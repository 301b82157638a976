use Rattle.std.proofs.Common.{length}
use Rattle.sv_elab_touch.proofs.before.+before_select.Given as goal

abbrev pub decreases-before_select : goal.decreases-before_select
decreases-before_select l = length l.suffixes.now
