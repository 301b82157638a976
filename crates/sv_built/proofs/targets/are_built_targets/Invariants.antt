use Rattle.std.proofs.Common.{◌↔◌, drop}
use Rattle.std.specs.List.{AllByRecursion}
use Rattle.sv_built.specs.Built.{IsBuiltTarget}
use Rattle.sv_built.proofs.targets.are_built_targets.Given as goal

-- the rest decides
abbrev pub invariant-loop-target : goal.invariant-loop-target
invariant-loop-target l = AllByRecursion IsBuiltTarget l.targets ↔ AllByRecursion IsBuiltTarget (drop l.target-index l.targets)
