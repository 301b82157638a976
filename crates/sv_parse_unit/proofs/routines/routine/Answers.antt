use Rattle.std.proofs.Common.{arith}
use Rattle.std.proofs.lemmas.Grind.{common_steps}
use Rattle.sv_tree.specs.UnitGrammar.{routine}
use Rattle.sv_parse_unit.proofs.RoutineLaws.{decls_are, stmts_are}
use Rattle.sv_parse_unit.proofs.routines.routine.Goals as goal

pub returns-in-Err : goal.returns-in-Err
unfolding routine
returns-in-Err c = grind (arith, common_steps, decls_are, stmts_are)

pub returns-in-Err-expect : goal.returns-in-Err-expect
unfolding routine
returns-in-Err-expect c = grind (arith, common_steps, decls_are, stmts_are)

pub returns-in-Err-items : goal.returns-in-Err-items
unfolding routine
returns-in-Err-items c = grind (arith, common_steps, decls_are, stmts_are)

pub returns-in-Err-routine_end : goal.returns-in-Err-routine_end
unfolding routine
returns-in-Err-routine_end c = grind (arith, common_steps, decls_are, stmts_are)

pub returns : goal.returns
unfolding routine
returns c = grind (arith, common_steps, decls_are, stmts_are)
