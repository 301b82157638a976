use Rattle.std.proofs.Common.{arith}
use Rattle.std.proofs.lemmas.Grind.{common_steps}
use Rattle.sv_tree.specs.StmtGrammar.{ignore}
use Rattle.sv_parse_stmt.proofs.simple.ignore.Goals as goal

pub returns-in-Err : goal.returns-in-Err
unfolding ignore
returns-in-Err c = grind (arith, common_steps)

pub returns-in-Err-expect : goal.returns-in-Err-expect
unfolding ignore
returns-in-Err-expect c = grind (arith, common_steps)

pub returns-in-Err-expect-2 : goal.returns-in-Err-expect-2
unfolding ignore
returns-in-Err-expect-2 c = grind (arith, common_steps)

pub returns-in-Err-call : goal.returns-in-Err-call
unfolding ignore
returns-in-Err-call c = grind (arith, common_steps)

pub returns-in-Err-expect-3 : goal.returns-in-Err-expect-3
unfolding ignore
returns-in-Err-expect-3 c = grind (arith, common_steps)

pub returns-in-Err-expect-4 : goal.returns-in-Err-expect-4
unfolding ignore
returns-in-Err-expect-4 c = grind (arith, common_steps)

pub returns : goal.returns
unfolding ignore
returns c = grind (arith, common_steps)
