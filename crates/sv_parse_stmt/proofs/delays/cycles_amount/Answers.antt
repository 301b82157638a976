use Rattle.std.proofs.Common.{arith}
use Rattle.std.proofs.lemmas.Grind.{common_steps}
use Rattle.sv_parse_stmt.proofs.DelayLaws.{cycles_number, cycles_named, cycles_enclosed}
use Rattle.sv_parse_stmt.proofs.delays.cycles_amount.Goals as goal

pub returns-in-Err : goal.returns-in-Err
returns-in-Err c = grind (arith, common_steps, cycles_number, cycles_named, cycles_enclosed)

pub returns-in-Err-name : goal.returns-in-Err-name
returns-in-Err-name c = grind (arith, common_steps, cycles_number, cycles_named, cycles_enclosed)

pub returns : goal.returns
returns c = grind (arith, common_steps, cycles_number, cycles_named, cycles_enclosed)

pub returns-then-is_next : goal.returns-then-is_next
returns-then-is_next c = grind (arith, common_steps, cycles_number, cycles_named, cycles_enclosed)

pub returns-then-is_next-2 : goal.returns-then-is_next-2
returns-then-is_next-2 c = grind (arith, common_steps, cycles_number, cycles_named, cycles_enclosed)
