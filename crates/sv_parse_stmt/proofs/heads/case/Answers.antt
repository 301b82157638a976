use Rattle.std.proofs.Common.{arith}
use Rattle.std.proofs.lemmas.Grind.{common_steps}
use Rattle.sv_parse_stmt.proofs.HeadLaws.{case_is}
use Rattle.sv_parse_stmt.proofs.heads.case.Goals as goal

pub returns-in-Err : goal.returns-in-Err
returns-in-Err c = grind (arith, common_steps, case_is)

pub returns-in-Err-read : goal.returns-in-Err-read
returns-in-Err-read c = grind (arith, common_steps, case_is)

pub returns : goal.returns
returns c = grind (arith, common_steps, case_is)
