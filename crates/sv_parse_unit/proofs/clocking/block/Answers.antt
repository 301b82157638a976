use Rattle.std.proofs.Common.{arith}
use Rattle.std.proofs.lemmas.Grind.{common_steps}
use Rattle.sv_tree.specs.UnitGrammar.{clocking_rest}
use Rattle.sv_parse_unit.proofs.clocking.block.Goals as goal

pub returns-in-Err : goal.returns-in-Err
unfolding clocking_rest
returns-in-Err c = grind (arith, common_steps)

pub returns-in-Err-expect : goal.returns-in-Err-expect
unfolding clocking_rest
returns-in-Err-expect c = grind (arith, common_steps)

pub returns-in-Err-name : goal.returns-in-Err-name
unfolding clocking_rest
returns-in-Err-name c = grind (arith, common_steps)

pub returns-in-Err-expect-2 : goal.returns-in-Err-expect-2
unfolding clocking_rest
returns-in-Err-expect-2 c = grind (arith, common_steps)

pub returns-in-Err-expect-3 : goal.returns-in-Err-expect-3
unfolding clocking_rest
returns-in-Err-expect-3 c = grind (arith, common_steps)

pub returns-in-Err-items : goal.returns-in-Err-items
unfolding clocking_rest
returns-in-Err-items c = grind (arith, common_steps)

pub returns-in-Err-expect-4 : goal.returns-in-Err-expect-4
unfolding clocking_rest
returns-in-Err-expect-4 c = grind (arith, common_steps)

pub returns-in-Err-label : goal.returns-in-Err-label
unfolding clocking_rest
returns-in-Err-label c = grind (arith, common_steps)

pub returns : goal.returns
unfolding clocking_rest
returns c = grind (arith, common_steps)
