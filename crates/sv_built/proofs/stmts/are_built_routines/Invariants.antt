use Rattle.std.proofs.Common.{◌↔◌, drop}
use Rattle.std.specs.List.{AllByRecursion}
use Rattle.sv_built.specs.Built.{IsBuiltRoutine}
use Rattle.sv_built.proofs.stmts.are_built_routines.Given as goal

-- the rest decides
abbrev pub invariant-loop-routine : goal.invariant-loop-routine
invariant-loop-routine l = AllByRecursion IsBuiltRoutine l.routines ↔ AllByRecursion IsBuiltRoutine (drop l.routine-index l.routines)
