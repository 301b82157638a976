use Rattle.std.proofs.Common.{arith}
use Rattle.std.proofs.lemmas.Grind.{common_steps}
use Rattle.sv_tree.specs.StmtGrammar.{nonblocking_rest}
use Rattle.sv_parse_stmt.proofs.assignments.nonblocking.Goals as goal

pub returns-in-Err : goal.returns-in-Err
unfolding nonblocking_rest
returns-in-Err c = grind (arith, common_steps)

pub returns-in-Err-maybe : goal.returns-in-Err-maybe
unfolding nonblocking_rest
returns-in-Err-maybe c = grind (arith, common_steps)

pub returns-in-Err-value : goal.returns-in-Err-value
unfolding nonblocking_rest
returns-in-Err-value c = grind (arith, common_steps)

pub returns-in-Err-expect : goal.returns-in-Err-expect
unfolding nonblocking_rest
returns-in-Err-expect c = grind (arith, common_steps)

pub returns : goal.returns
unfolding nonblocking_rest
returns c = grind (arith, common_steps)
