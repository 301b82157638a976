use Rattle.std.proofs.Common.{◌↔◌, drop}
use Rattle.std.specs.List.{AllByRecursion}
use Rattle.sv_built.specs.Built.{IsBuiltExpr}
use Rattle.sv_built.proofs.exprs.are_built_exprs.Given as goal

-- the rest decides
abbrev pub invariant-loop-expr : goal.invariant-loop-expr
invariant-loop-expr l = AllByRecursion IsBuiltExpr l.exprs ↔ AllByRecursion IsBuiltExpr (drop l.expr-index l.exprs)
