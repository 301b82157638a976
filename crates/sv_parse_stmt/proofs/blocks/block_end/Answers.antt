use Rattle.std.proofs.Common.{arith}
use Rattle.std.proofs.lemmas.Grind.{common_steps}
use Rattle.sv_parse_stmt.proofs.BlockParts.{decls_of_items, stmts_of_items}
use Rattle.sv_parse_stmt.proofs.blocks.block_end.Goals as goal

pub returns-in-Err : goal.returns-in-Err
returns-in-Err c = grind (arith, common_steps, decls_of_items, stmts_of_items)

pub returns-in-Err-label : goal.returns-in-Err-label
returns-in-Err-label c = grind (arith, common_steps, decls_of_items, stmts_of_items)

pub returns-in-Err-expect_word : goal.returns-in-Err-expect_word
returns-in-Err-expect_word c = grind (arith, common_steps, decls_of_items, stmts_of_items)

pub returns-in-Err-label-2 : goal.returns-in-Err-label-2
returns-in-Err-label-2 c = grind (arith, common_steps, decls_of_items, stmts_of_items)

pub returns-in-Ok-label : goal.returns-in-Ok-label
returns-in-Ok-label c = grind (arith, common_steps, decls_of_items, stmts_of_items)

pub returns-in-Ok-label-2 : goal.returns-in-Ok-label-2
returns-in-Ok-label-2 c = grind (arith, common_steps, decls_of_items, stmts_of_items)
