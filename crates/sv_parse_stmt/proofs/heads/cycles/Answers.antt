use Rattle.std.proofs.Common.{arith}
use Rattle.std.proofs.lemmas.Grind.{common_steps}
use Rattle.sv_tree.specs.StmtGrammar.{cycles}
use Rattle.sv_parse_stmt.proofs.heads.cycles.Goals as goal

pub returns-in-Err : goal.returns-in-Err
unfolding cycles
returns-in-Err c = grind (arith, common_steps)

pub returns-in-Err-cycles_amount : goal.returns-in-Err-cycles_amount
unfolding cycles
returns-in-Err-cycles_amount c = grind (arith, common_steps)

pub returns : goal.returns
unfolding cycles
returns c = grind (arith, common_steps)
