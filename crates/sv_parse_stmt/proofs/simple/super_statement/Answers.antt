use Rattle.std.proofs.Common.{arith}
use Rattle.std.proofs.lemmas.Grind.{common_steps}
use Rattle.sv_parse_stmt.proofs.SimpleLaws.{super_is, super_new, super_member}
use Rattle.sv_parse_stmt.proofs.simple.super_statement.Goals as goal

pub returns-in-Err : goal.returns-in-Err
returns-in-Err c = grind (arith, common_steps, super_is, super_new, super_member)

pub returns-in-Err-expect : goal.returns-in-Err-expect
returns-in-Err-expect c = grind (arith, common_steps, super_is, super_new, super_member)

pub returns-in-Err-expect-2 : goal.returns-in-Err-expect-2
returns-in-Err-expect-2 c = grind (arith, common_steps, super_is, super_new, super_member)

pub returns-in-Err-maybe_actuals : goal.returns-in-Err-maybe_actuals
returns-in-Err-maybe_actuals c = grind (arith, common_steps, super_is, super_new, super_member)

pub returns-in-Err-expect-3 : goal.returns-in-Err-expect-3
returns-in-Err-expect-3 c = grind (arith, common_steps, super_is, super_new, super_member)

pub returns-then-is_next : goal.returns-then-is_next
returns-then-is_next c = grind (arith, common_steps, super_is, super_new, super_member)

pub returns-in-Err-name : goal.returns-in-Err-name
returns-in-Err-name c = grind (arith, common_steps, super_is, super_new, super_member)

pub returns-in-Err-suffixes : goal.returns-in-Err-suffixes
returns-in-Err-suffixes c = grind (arith, common_steps, super_is, super_new, super_member)

pub returns-in-Err-post_end : goal.returns-in-Err-post_end
returns-in-Err-post_end c = grind (arith, common_steps, super_is, super_new, super_member)

pub returns : goal.returns
returns c = grind (arith, common_steps, super_is, super_new, super_member)
