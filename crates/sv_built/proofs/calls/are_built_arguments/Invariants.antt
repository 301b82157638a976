use Rattle.std.proofs.Common.{◌↔◌, drop}
use Rattle.std.specs.List.{AllByRecursion}
use Rattle.sv_built.specs.Built.{IsBuiltArgument}
use Rattle.sv_built.proofs.calls.are_built_arguments.Given as goal

-- the rest decides
abbrev pub invariant-loop-argument : goal.invariant-loop-argument
invariant-loop-argument l = AllByRecursion IsBuiltArgument l.arguments ↔ AllByRecursion IsBuiltArgument (drop l.argument-index l.arguments)
