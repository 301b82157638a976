use Rattle.std.proofs.Common.{length}
use Rattle.sv_parse_unit.proofs.classes.+has_word.Given as goal

abbrev pub decreases-has_word : goal.decreases-has_word
decreases-has_word l = length l.tokens.now
