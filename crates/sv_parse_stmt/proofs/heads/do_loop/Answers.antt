use Rattle.std.proofs.Common.{arith}
use Rattle.std.proofs.lemmas.Grind.{common_steps}
use Rattle.sv_parse_stmt.proofs.HeadLaws.{do_is}
use Rattle.sv_parse_stmt.proofs.heads.do_loop.Goals as goal

pub returns-in-Err : goal.returns-in-Err
returns-in-Err c = grind (arith, common_steps, do_is)

pub returns : goal.returns
returns c = grind (arith, common_steps, do_is)
