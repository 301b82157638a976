use Rattle.std.proofs.Common.{arith}
use Rattle.std.proofs.lemmas.Grind.{common_steps}
use Rattle.sv_parse_stmt.proofs.ForLaws.{step_assign, step_operator, step_word}
use Rattle.sv_parse_stmt.proofs.for_parts.for_step_rest.Goals as goal

pub returns-in-Err : goal.returns-in-Err
returns-in-Err c = grind (arith, common_steps, step_assign, step_operator, step_word)

pub returns-in-Err-expect_word : goal.returns-in-Err-expect_word
returns-in-Err-expect_word c = grind (arith, common_steps, step_assign, step_operator, step_word)

pub returns-in-Err-value : goal.returns-in-Err-value
returns-in-Err-value c = grind (arith, common_steps, step_assign, step_operator, step_word)

pub returns-in-Err-expect_word-2 : goal.returns-in-Err-expect_word-2
returns-in-Err-expect_word-2 c = grind (arith, common_steps, step_assign, step_operator, step_word)

pub returns : goal.returns
returns c = grind (arith, common_steps, step_assign, step_operator, step_word)

pub returns-then-is_next : goal.returns-then-is_next
returns-then-is_next c = grind (arith, common_steps, step_assign, step_operator, step_word)

pub returns-then-is_next_word : goal.returns-then-is_next_word
returns-then-is_next_word c = grind (arith, common_steps, step_assign, step_operator, step_word)
