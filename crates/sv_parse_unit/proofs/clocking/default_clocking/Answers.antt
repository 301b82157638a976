use Rattle.std.proofs.Common.{arith}
use Rattle.std.proofs.lemmas.Grind.{common_steps}
use Rattle.sv_parse_unit.proofs.ClockingLaws.{default_is, default_alone, default_block}
use Rattle.sv_parse_unit.proofs.clocking.default_clocking.Goals as goal

pub returns-in-Err : goal.returns-in-Err
returns-in-Err c = grind (arith, common_steps, default_is, default_alone, default_block)

pub returns-in-Err-expect : goal.returns-in-Err-expect
returns-in-Err-expect c = grind (arith, common_steps, default_is, default_alone, default_block)

pub returns-in-Err-name : goal.returns-in-Err-name
returns-in-Err-name c = grind (arith, common_steps, default_is, default_alone, default_block)

pub returns-in-Err-expect-2 : goal.returns-in-Err-expect-2
returns-in-Err-expect-2 c = grind (arith, common_steps, default_is, default_alone, default_block)

pub returns-in-Err-block : goal.returns-in-Err-block
returns-in-Err-block c = grind (arith, common_steps, default_is, default_alone, default_block)

pub returns : goal.returns
returns c = grind (arith, common_steps, default_is, default_alone, default_block)

pub returns-then-is_next : goal.returns-then-is_next
returns-then-is_next c = grind (arith, common_steps, default_is, default_alone, default_block)
