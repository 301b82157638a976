use Rattle.std.proofs.Common.{arith}
use Rattle.std.proofs.lemmas.Grind.{common_steps}
use Rattle.sv_parse_stmt.proofs.EventLaws.{event_named, event_star, event_listed}
use Rattle.sv_parse_stmt.proofs.events.event.Goals as goal

pub returns-in-Err : goal.returns-in-Err
returns-in-Err c = grind (arith, common_steps, event_named, event_star, event_listed)

pub returns-in-Err-expect : goal.returns-in-Err-expect
returns-in-Err-expect c = grind (arith, common_steps, event_named, event_star, event_listed)

pub returns-in-Err-expect-2 : goal.returns-in-Err-expect-2
returns-in-Err-expect-2 c = grind (arith, common_steps, event_named, event_star, event_listed)

pub returns : goal.returns
returns c = grind (arith, common_steps, event_named, event_star, event_listed)

pub returns-then-is_next : goal.returns-then-is_next
returns-then-is_next c = grind (arith, common_steps, event_named, event_star, event_listed)

pub returns-then-is_next-2 : goal.returns-then-is_next-2
returns-then-is_next-2 c = grind (arith, common_steps, event_named, event_star, event_listed)
