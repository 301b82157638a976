use Rattle.std.proofs.Common.{arith}
use Rattle.std.proofs.lemmas.Grind.{common_steps}
use Rattle.sv_parse_stmt.proofs.ForLaws.{init_named, init_typed, init_target}
use Rattle.sv_parse_stmt.proofs.for_parts.for_init.Goals as goal

pub returns-in-Err : goal.returns-in-Err
returns-in-Err c = grind (arith, common_steps, init_named, init_typed, init_target)

pub returns-then-is_next : goal.returns-then-is_next
returns-then-is_next c = grind (arith, common_steps, init_named, init_typed, init_target)

pub returns-in-Err-word_type : goal.returns-in-Err-word_type
returns-in-Err-word_type c = grind (arith, common_steps, init_named, init_typed, init_target)

pub returns-in-Err-name : goal.returns-in-Err-name
returns-in-Err-name c = grind (arith, common_steps, init_named, init_typed, init_target)

pub returns-in-Err-read : goal.returns-in-Err-read
returns-in-Err-read c = grind (arith, common_steps, init_named, init_typed, init_target)

pub returns-then-begins_word_type : goal.returns-then-begins_word_type
returns-then-begins_word_type c = grind (arith, common_steps, init_named, init_typed, init_target)

pub returns-in-Err-lval : goal.returns-in-Err-lval
returns-in-Err-lval c = grind (arith, common_steps, init_named, init_typed, init_target)

pub returns-in-Err-read-2 : goal.returns-in-Err-read-2
returns-in-Err-read-2 c = grind (arith, common_steps, init_named, init_typed, init_target)

pub returns : goal.returns
returns c = grind (arith, common_steps, init_named, init_typed, init_target)
