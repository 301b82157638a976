use Rattle.std.proofs.Common.{arith}
use Rattle.std.proofs.lemmas.Grind.{common_steps}
use Rattle.sv_parse_stmt.proofs.HeadLaws.{wait_is, wait_enclosed, wait_fork, wait_deep}
use Rattle.sv_parse_stmt.proofs.heads.wait.Goals as goal

pub returns-in-Err : goal.returns-in-Err
returns-in-Err c = grind (arith, common_steps, wait_is, wait_enclosed, wait_fork, wait_deep)

pub returns-in-Err-read : goal.returns-in-Err-read
returns-in-Err-read c = grind (arith, common_steps, wait_is, wait_enclosed, wait_fork, wait_deep)

pub returns-then-is_next : goal.returns-then-is_next
returns-then-is_next c = grind (arith, common_steps, wait_is, wait_enclosed, wait_fork, wait_deep)

pub returns-in-Err-expect : goal.returns-in-Err-expect
returns-in-Err-expect c = grind (arith, common_steps, wait_is, wait_enclosed, wait_fork, wait_deep)

pub returns-in-Err-expect-2 : goal.returns-in-Err-expect-2
returns-in-Err-expect-2 c = grind (arith, common_steps, wait_is, wait_enclosed, wait_fork, wait_deep)

pub returns : goal.returns
returns c = grind (arith, common_steps, wait_is, wait_enclosed, wait_fork, wait_deep)
