use Rattle.std.proofs.Common.{arith}
use Rattle.std.proofs.lemmas.Grind.{common_steps}
use Rattle.sv_tree.specs.StmtGrammar.{foreach}
use Rattle.sv_parse_stmt.proofs.heads.foreach.Goals as goal

pub returns-in-Err : goal.returns-in-Err
unfolding foreach
returns-in-Err c = grind (arith, common_steps)

pub returns-in-Err-expect : goal.returns-in-Err-expect
unfolding foreach
returns-in-Err-expect c = grind (arith, common_steps)

pub returns-in-Err-name : goal.returns-in-Err-name
unfolding foreach
returns-in-Err-name c = grind (arith, common_steps)

pub returns-in-Err-expect-2 : goal.returns-in-Err-expect-2
unfolding foreach
returns-in-Err-expect-2 c = grind (arith, common_steps)

pub returns-in-Err-name-2 : goal.returns-in-Err-name-2
unfolding foreach
returns-in-Err-name-2 c = grind (arith, common_steps)

pub returns-in-Err-expect-3 : goal.returns-in-Err-expect-3
unfolding foreach
returns-in-Err-expect-3 c = grind (arith, common_steps)

pub returns-in-Err-expect-4 : goal.returns-in-Err-expect-4
unfolding foreach
returns-in-Err-expect-4 c = grind (arith, common_steps)

pub returns : goal.returns
unfolding foreach
returns c = grind (arith, common_steps)
