use Rattle.std.proofs.Common.{◌↔◌, drop}
use Rattle.std.specs.List.{AllByRecursion}
use Rattle.sv_built.specs.Built.{IsBuiltStmt}
use Rattle.sv_built.proofs.stmts.are_built_stmts.Given as goal

-- the rest decides
abbrev pub invariant-loop-stmt : goal.invariant-loop-stmt
invariant-loop-stmt l = AllByRecursion IsBuiltStmt l.stmts ↔ AllByRecursion IsBuiltStmt (drop l.stmt-index l.stmts)
