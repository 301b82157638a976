use Rattle.std.proofs.Common.{arith}
use Rattle.std.proofs.lemmas.Grind.{common_steps}
use Rattle.sv_parse_stmt.proofs.AssignmentLaws.{post_call, post_assign}
use Rattle.sv_parse_stmt.proofs.assignments.post_end.Goals as goal

pub returns-in-Err : goal.returns-in-Err
returns-in-Err c = grind (arith, common_steps, post_call, post_assign)

pub returns : goal.returns
returns c = grind (arith, common_steps, post_call, post_assign)

pub returns-then-begins_assignment : goal.returns-then-begins_assignment
returns-then-begins_assignment c = grind (arith, common_steps, post_call, post_assign)
