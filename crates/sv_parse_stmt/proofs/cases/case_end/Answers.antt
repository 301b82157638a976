use Rattle.std.proofs.Common.{arith}
use Rattle.std.proofs.lemmas.Grind.{common_steps}
use Rattle.sv_parse_stmt.proofs.CaseLaws.{items_are_stacked}
use Rattle.sv_parse_stmt.proofs.cases.case_end.Goals as goal

pub returns-in-Err : goal.returns-in-Err
returns-in-Err c = grind (arith, common_steps, items_are_stacked)

pub returns : goal.returns
returns c = grind (arith, common_steps, items_are_stacked)
