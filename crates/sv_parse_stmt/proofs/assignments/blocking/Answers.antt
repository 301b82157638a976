use Rattle.std.proofs.Common.{arith}
use Rattle.std.proofs.lemmas.Grind.{common_steps}
use Rattle.sv_tree.specs.StmtGrammar.{blocking_rest}
use Rattle.sv_parse_stmt.proofs.assignments.blocking.Goals as goal

pub returns-in-Err : goal.returns-in-Err
unfolding blocking_rest
returns-in-Err c = grind (arith, common_steps)

pub returns-in-Err-maybe : goal.returns-in-Err-maybe
unfolding blocking_rest
returns-in-Err-maybe c = grind (arith, common_steps)

pub returns-in-Err-init : goal.returns-in-Err-init
unfolding blocking_rest
returns-in-Err-init c = grind (arith, common_steps)

pub returns-in-Err-expect : goal.returns-in-Err-expect
unfolding blocking_rest
returns-in-Err-expect c = grind (arith, common_steps)

pub returns : goal.returns
unfolding blocking_rest
returns c = grind (arith, common_steps)
