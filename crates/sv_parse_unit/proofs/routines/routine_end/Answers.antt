use Rattle.std.proofs.Common.{arith}
use Rattle.std.proofs.lemmas.Grind.{common_steps}
use Rattle.sv_tree.specs.UnitGrammar.{routine_end}
use Rattle.sv_parse_unit.proofs.RoutineLaws.{routine_name_low}
use Rattle.sv_parse_unit.proofs.routines.routine_end.Goals as goal

pub returns-in-Err : goal.returns-in-Err
unfolding routine_end
returns-in-Err c = grind (arith, common_steps, routine_name_low)

pub returns-in-Err-expect : goal.returns-in-Err-expect
unfolding routine_end
returns-in-Err-expect c = grind (arith, common_steps, routine_name_low)

pub returns-in-Err-routine_name : goal.returns-in-Err-routine_name
unfolding routine_end
returns-in-Err-routine_name c = λ d. let h = c.in-Err-routine_name.ensures d in grind (arith, common_steps, routine_name_low)

pub returns : goal.returns
unfolding routine_end
returns c = λ d. let h = c.in-Ok-routine_name.ensures d in grind (arith, common_steps, routine_name_low)

pub returns-then-not-is_next : goal.returns-then-not-is_next
unfolding routine_end
returns-then-not-is_next c = grind (arith, common_steps, routine_name_low)
