use Rattle.std.proofs.Common.{arith}
use Rattle.std.proofs.lemmas.Grind.{common_steps}
use Rattle.sv_parse_stmt.proofs.BlockLaws.{low_name, low_other}
use Rattle.sv_parse_stmt.proofs.blocks.no_statement.Goals as goal

pub returns-in-Err : goal.returns-in-Err
returns-in-Err c = grind (arith, common_steps, low_name, low_other)

pub returns : goal.returns
returns c = grind (arith, common_steps, low_name, low_other)

pub returns-then-is_next : goal.returns-then-is_next
returns-then-is_next c = grind (arith, common_steps, low_name, low_other)

pub returns-then-goes_on_named : goal.returns-then-goes_on_named
returns-then-goes_on_named c = grind (arith, common_steps, low_name, low_other)

pub returns-then-begins_stmt : goal.returns-then-begins_stmt
returns-then-begins_stmt c = grind (arith, common_steps, low_name, low_other)
