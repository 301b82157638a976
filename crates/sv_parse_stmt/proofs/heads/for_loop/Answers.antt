use Rattle.std.proofs.Common.{arith}
use Rattle.std.proofs.lemmas.Grind.{common_steps}
use Rattle.sv_tree.specs.StmtGrammar.{for_}
use Rattle.sv_parse_stmt.proofs.heads.for_loop.Goals as goal

pub returns-in-Err : goal.returns-in-Err
unfolding for_
returns-in-Err c = grind (arith, common_steps)

pub returns-in-Err-expect : goal.returns-in-Err-expect
unfolding for_
returns-in-Err-expect c = grind (arith, common_steps)

pub returns-in-Err-for_init : goal.returns-in-Err-for_init
unfolding for_
returns-in-Err-for_init c = grind (arith, common_steps)

pub returns-in-Err-expect-2 : goal.returns-in-Err-expect-2
unfolding for_
returns-in-Err-expect-2 c = grind (arith, common_steps)

pub returns-in-Err-value : goal.returns-in-Err-value
unfolding for_
returns-in-Err-value c = grind (arith, common_steps)

pub returns-in-Err-expect-3 : goal.returns-in-Err-expect-3
unfolding for_
returns-in-Err-expect-3 c = grind (arith, common_steps)

pub returns-in-Err-for_step : goal.returns-in-Err-for_step
unfolding for_
returns-in-Err-for_step c = grind (arith, common_steps)

pub returns-in-Err-expect-4 : goal.returns-in-Err-expect-4
unfolding for_
returns-in-Err-expect-4 c = grind (arith, common_steps)

pub returns : goal.returns
unfolding for_
returns c = grind (arith, common_steps)
