use Rattle.std.proofs.Common.{◌↔◌, drop}
use Rattle.std.specs.List.{AllByRecursion}
use Rattle.sv_built.specs.Built.{IsBuiltType}
use Rattle.sv_built.proofs.stmts.are_built_types.Given as goal

-- the rest decides
abbrev pub invariant-loop-ty : goal.invariant-loop-ty
invariant-loop-ty l = AllByRecursion IsBuiltType l.types ↔ AllByRecursion IsBuiltType (drop l.ty-index l.types)
