use Rattle.std.proofs.Common.{arith}
use Rattle.std.proofs.lemmas.Grind.{common_steps}
use Rattle.sv_parse_stmt.proofs.EventLaws.{list_star, list_parts}
use Rattle.sv_parse_stmt.proofs.events.event_list.Goals as goal

pub returns-in-Err : goal.returns-in-Err
returns-in-Err c = grind (arith, common_steps, list_star, list_parts)

pub returns-in-Err-expect : goal.returns-in-Err-expect
returns-in-Err-expect c = grind (arith, common_steps, list_star, list_parts)

pub returns-then-is_next : goal.returns-then-is_next
returns-then-is_next c = grind (arith, common_steps, list_star, list_parts)

pub returns-in-Err-event_part : goal.returns-in-Err-event_part
returns-in-Err-event_part c = grind (arith, common_steps, list_star, list_parts)

pub returns-in-Err-items : goal.returns-in-Err-items
returns-in-Err-items c = grind (arith, common_steps, list_star, list_parts)

pub returns-in-Err-expect-2 : goal.returns-in-Err-expect-2
returns-in-Err-expect-2 c = grind (arith, common_steps, list_star, list_parts)

pub returns : goal.returns
returns c = grind (arith, common_steps, list_star, list_parts)
