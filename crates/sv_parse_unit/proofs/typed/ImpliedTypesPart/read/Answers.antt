use Rattle.std.proofs.Common.{arith}
use Rattle.std.proofs.lemmas.Grind.{common_steps}
use Rattle.sv_parse_unit.proofs.TypedLaws.{implied_word, implied_sign, implied_range}
use Rattle.sv_parse_unit.proofs.typed.ImpliedTypesPart.read.Goals as goal

pub returns-in-Err : goal.returns-in-Err
returns-in-Err c = grind (arith, common_steps, implied_word, implied_sign, implied_range)

pub returns-in-Err-expect_word : goal.returns-in-Err-expect_word
returns-in-Err-expect_word c = grind (arith, common_steps, implied_word, implied_sign, implied_range)

pub returns-in-Err-maybe : goal.returns-in-Err-maybe
returns-in-Err-maybe c = grind (arith, common_steps, implied_word, implied_sign, implied_range)

pub returns-in-Err-read : goal.returns-in-Err-read
returns-in-Err-read c = grind (arith, common_steps, implied_word, implied_sign, implied_range)

pub returns : goal.returns
returns c = grind (arith, common_steps, implied_word, implied_sign, implied_range)

pub returns-then-begins_word_type : goal.returns-then-begins_word_type
returns-then-begins_word_type c = grind (arith, common_steps, implied_word, implied_sign, implied_range)

pub returns-then-is_next_word : goal.returns-then-is_next_word
returns-then-is_next_word c = grind (arith, common_steps, implied_word, implied_sign, implied_range)
