use Rattle.std.proofs.Common.{length}
use Rattle.sv_elab_select.proofs.targets.+all_numbers.Given as goal

abbrev pub decreases-all_numbers : goal.decreases-all_numbers
decreases-all_numbers l = length l.spots.now
