use Rattle.std.proofs.Common.{arith}
use Rattle.std.proofs.lemmas.Grind.{common_steps}
use Rattle.sv_tree.specs.UnitGrammar.{element_params}
use Rattle.sv_parse_unit.proofs.ElementLaws.{params_some, params_none}
use Rattle.sv_parse_unit.proofs.params.maybe_params.Goals as goal

pub returns-in-Err : goal.returns-in-Err
unfolding element_params
returns-in-Err c = grind (arith, common_steps, params_some, params_none)

pub returns-in-Err-enclosed_list : goal.returns-in-Err-enclosed_list
unfolding element_params
returns-in-Err-enclosed_list c = grind (arith, common_steps, params_some, params_none)

pub returns : goal.returns
unfolding element_params
returns c = grind (arith, common_steps, params_some, params_none)

pub returns-then-not-is_next : goal.returns-then-not-is_next
unfolding element_params
returns-then-not-is_next c = grind (arith, common_steps, params_some, params_none)
