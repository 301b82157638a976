use Rattle.std.proofs.Common.{arith}
use Rattle.std.proofs.lemmas.Grind.{common_steps}
use Rattle.sv_tree.specs.UnitGrammar.{class_rest}
use Rattle.sv_parse_unit.proofs.classes.class_rest.Goals as goal

pub returns-in-Err : goal.returns-in-Err
unfolding class_rest
returns-in-Err c = grind (arith, common_steps)

pub returns-in-Err-base : goal.returns-in-Err-base
unfolding class_rest
returns-in-Err-base c = grind (arith, common_steps)

pub returns-in-Err-expect : goal.returns-in-Err-expect
unfolding class_rest
returns-in-Err-expect c = grind (arith, common_steps)

pub returns-in-Err-items : goal.returns-in-Err-items
unfolding class_rest
returns-in-Err-items c = grind (arith, common_steps)

pub returns-in-Err-expect-2 : goal.returns-in-Err-expect-2
unfolding class_rest
returns-in-Err-expect-2 c = grind (arith, common_steps)

pub returns-in-Err-label : goal.returns-in-Err-label
unfolding class_rest
returns-in-Err-label c = grind (arith, common_steps)

pub returns : goal.returns
unfolding class_rest
returns c = grind (arith, common_steps)
