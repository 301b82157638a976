use Rattle.std.proofs.Common.{length}
use Rattle.sv_elab_touch.proofs.quiet.+are_numbers.Given as goal

abbrev pub decreases-are_numbers : goal.decreases-are_numbers
decreases-are_numbers l = length l.suffixes.now
