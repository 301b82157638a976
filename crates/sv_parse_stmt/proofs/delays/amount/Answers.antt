use Rattle.std.proofs.Common.{arith}
use Rattle.std.proofs.lemmas.Grind.{common_steps}
use Rattle.sv_parse_stmt.proofs.DelayLaws.{amount_time, amount_cycles}
use Rattle.sv_parse_stmt.proofs.delays.amount.Goals as goal

pub returns-in-Err : goal.returns-in-Err
returns-in-Err c = grind (arith, common_steps, amount_time, amount_cycles)

pub returns : goal.returns
returns c = grind (arith, common_steps, amount_time, amount_cycles)

pub returns-then-is_next : goal.returns-then-is_next
returns-then-is_next c = grind (arith, common_steps, amount_time, amount_cycles)
