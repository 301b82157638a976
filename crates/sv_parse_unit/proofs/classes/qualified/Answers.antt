use Rattle.std.proofs.lemmas.List.{take_rest}
use Rattle.sv_parse_unit.proofs.ClassLaws.{qualified_is}
use Rattle.sv_parse_unit.proofs.classes.qualified.Goals as goal

pub returns : goal.returns
returns c = rw (qualified_is c.args.budget c.args.tokens.now, ← c.qualifier_count-count.ensures.value) (rw (take_rest c.args.tokens.now c.qualifier_count-count.result) at c.member.ensures)
