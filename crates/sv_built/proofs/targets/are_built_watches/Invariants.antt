use Rattle.std.proofs.Common.{◌↔◌, drop}
use Rattle.std.specs.List.{AllByRecursion}
use Rattle.sv_built.specs.Built.{IsBuiltWatch}
use Rattle.sv_built.proofs.targets.are_built_watches.Given as goal

-- the rest decides
abbrev pub invariant-loop-watch : goal.invariant-loop-watch
invariant-loop-watch l = AllByRecursion IsBuiltWatch l.watches ↔ AllByRecursion IsBuiltWatch (drop l.watch-index l.watches)
