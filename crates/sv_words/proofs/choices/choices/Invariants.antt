use Rattle.std.proofs.Common.{◌≡◌}
use Rattle.sv_words.specs.Words.{choices_of, between_commas}
use Rattle.sv_words.specs.Parts.{parts_left, bytes_left}
use Rattle.sv_words.proofs.ChoiceLemmas.{joined}
use Rattle.sv_words.proofs.choices.choices.Given as goal

abbrev pub invariant-loop-left : goal.invariant-loop-left
invariant-loop-left l = joined l.numbers.items (choices_of (parts_left l.left)) ≡ choices_of (between_commas l.list)

abbrev pub decreases-loop-left : goal.decreases-loop-left
decreases-loop-left l = bytes_left l.left
