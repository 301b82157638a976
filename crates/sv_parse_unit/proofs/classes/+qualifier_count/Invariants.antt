use Rattle.std.proofs.Common.{length}
use Rattle.sv_parse_unit.proofs.classes.+qualifier_count.Given as goal

abbrev pub decreases-qualifier_count : goal.decreases-qualifier_count
decreases-qualifier_count l = length l.tokens.now
