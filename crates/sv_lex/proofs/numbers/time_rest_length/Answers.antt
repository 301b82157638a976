use Rattle.std.proofs.Common.{◌∙◌}
use Rattle.std.specs.Char.{is_ascii_digit}
use Rattle.sv_tree.specs.Tokens.{is_time_rest, is_unit}
use Rattle.sv_lex.proofs.Prefixes.{run_then, over_zero, over_some}
use Rattle.sv_lex.proofs.Forms.{time_rest_prefix}
use Rattle.sv_lex.proofs.numbers.time_rest_length.Goals as goal

pub returns-then-unit-eq0-clause-value : goal.returns-then-unit-eq0-clause-value
returns-then-unit-eq0-clause-value c = over_zero _ _ c.if-unit-eq0.true ∙ run_then is_time_rest is_unit is_ascii_digit time_rest_prefix _ _ _ c.digit_run-digits.ensures.value c.unit_length-unit.ensures.value

pub returns-else-unit-eq0-clause-value : goal.returns-else-unit-eq0-clause-value
returns-else-unit-eq0-clause-value c = over_some _ _ c.if-unit-eq0.false ∙ run_then is_time_rest is_unit is_ascii_digit time_rest_prefix _ _ _ c.digit_run-digits.ensures.value c.unit_length-unit.ensures.value
