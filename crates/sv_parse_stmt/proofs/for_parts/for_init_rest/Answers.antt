use Rattle.std.proofs.Common.{arith}
use Rattle.std.proofs.lemmas.Grind.{common_steps}
use Rattle.sv_parse_stmt.proofs.ForLaws.{init_declares, init_assigns}
use Rattle.sv_parse_stmt.proofs.for_parts.for_init_rest.Goals as goal

pub returns-in-Err : goal.returns-in-Err
returns-in-Err c = grind (arith, common_steps, init_declares, init_assigns)

pub returns-in-Err-read : goal.returns-in-Err-read
returns-in-Err-read c = grind (arith, common_steps, init_declares, init_assigns)

pub returns-then-is_next : goal.returns-then-is_next
returns-then-is_next c = grind (arith, common_steps, init_declares, init_assigns)

pub returns-in-Err-scope : goal.returns-in-Err-scope
returns-in-Err-scope c = grind (arith, common_steps, init_declares, init_assigns)

pub returns-in-Err-suffixes : goal.returns-in-Err-suffixes
returns-in-Err-suffixes c = grind (arith, common_steps, init_declares, init_assigns)

pub returns-in-Err-read-2 : goal.returns-in-Err-read-2
returns-in-Err-read-2 c = grind (arith, common_steps, init_declares, init_assigns)

pub returns : goal.returns
returns c = grind (arith, common_steps, init_declares, init_assigns)
