use Rattle.std.proofs.Common.{arith}
use Rattle.std.proofs.lemmas.Grind.{common_steps}
use Rattle.sv_tree.specs.UnitGrammar.{dotted}
use Rattle.sv_parse_unit.proofs.InstanceLaws.{given_written, given_unwritten}
use Rattle.sv_parse_unit.proofs.connections.dotted.Goals as goal

pub returns-in-Err : goal.returns-in-Err
unfolding dotted
returns-in-Err c = grind (arith, common_steps, given_written, given_unwritten)

pub returns-in-Err-name : goal.returns-in-Err-name
unfolding dotted
returns-in-Err-name c = grind (arith, common_steps, given_written, given_unwritten)

pub returns-in-Err-given : goal.returns-in-Err-given
unfolding dotted
returns-in-Err-given c = grind (arith, common_steps, given_written, given_unwritten)

pub returns : goal.returns
unfolding dotted
returns c = grind (arith, common_steps, given_written, given_unwritten)

pub returns-then-not-is_next : goal.returns-then-not-is_next
unfolding dotted
returns-then-not-is_next c = grind (arith, common_steps, given_written, given_unwritten)
