use Rattle.std.proofs.Common.{◌↔◌, drop}
use Rattle.std.specs.List.{AllByRecursion}
use Rattle.sv_built.specs.Built.{IsBuiltVariable}
use Rattle.sv_built.proofs.stmts.are_built_variables.Given as goal

-- the rest decides
abbrev pub invariant-loop-variable : goal.invariant-loop-variable
invariant-loop-variable l = AllByRecursion IsBuiltVariable l.variables ↔ AllByRecursion IsBuiltVariable (drop l.variable-index l.variables)
