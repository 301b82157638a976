use Rattle.std.proofs.Common.{arith}
use Rattle.std.proofs.lemmas.Grind.{common_steps}
use Rattle.sv_parse_stmt.proofs.front.do_end.Goals as goal

pub returns-in-Err : goal.returns-in-Err
returns-in-Err c = grind (arith, common_steps)

pub returns-in-Err-read : goal.returns-in-Err-read
returns-in-Err-read c = grind (arith, common_steps)

pub returns-in-Err-expect : goal.returns-in-Err-expect
returns-in-Err-expect c = grind (arith, common_steps)

pub returns : goal.returns
returns c = grind (arith, common_steps)
