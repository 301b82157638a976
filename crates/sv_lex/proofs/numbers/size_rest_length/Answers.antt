use Rattle.std.proofs.Common.{◌∙◌}
use Rattle.sv_tree.specs.Tokens.{is_size_rest, is_based_number, is_digit_or_mark}
use Rattle.sv_lex.proofs.Prefixes.{run_then, over_zero, over_some}
use Rattle.sv_lex.proofs.Forms.{size_prefix}
use Rattle.sv_lex.proofs.numbers.size_rest_length.Goals as goal

pub returns-then-number-eq0-clause-value : goal.returns-then-number-eq0-clause-value
returns-then-number-eq0-clause-value c = over_zero _ _ c.if-number-eq0.true ∙ run_then is_size_rest is_based_number is_digit_or_mark size_prefix _ _ _ c.digit_or_mark_run-size.ensures.value c.based_number_length-number.ensures.value

pub returns-else-number-eq0-clause-value : goal.returns-else-number-eq0-clause-value
returns-else-number-eq0-clause-value c = over_some _ _ c.if-number-eq0.false ∙ run_then is_size_rest is_based_number is_digit_or_mark size_prefix _ _ _ c.digit_or_mark_run-size.ensures.value c.based_number_length-number.ensures.value
