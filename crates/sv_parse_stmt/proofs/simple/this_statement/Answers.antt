use Rattle.std.proofs.Common.{arith}
use Rattle.std.proofs.lemmas.Grind.{common_steps}
use Rattle.sv_parse_stmt.proofs.SimpleLaws.{this_is}
use Rattle.sv_parse_stmt.proofs.simple.this_statement.Goals as goal

pub returns-in-Err : goal.returns-in-Err
returns-in-Err c = grind (arith, common_steps, this_is)

pub returns-in-Err-suffixes : goal.returns-in-Err-suffixes
returns-in-Err-suffixes c = grind (arith, common_steps, this_is)

pub returns-in-Err-post_end : goal.returns-in-Err-post_end
returns-in-Err-post_end c = grind (arith, common_steps, this_is)

pub returns : goal.returns
returns c = grind (arith, common_steps, this_is)
