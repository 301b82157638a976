use Rattle.std.proofs.Common.{◌↔◌, drop}
use Rattle.std.specs.List.{AllByRecursion}
use Rattle.sv_sense.specs.Scoped.{IsStaticWatch}
use Rattle.sv_sense.proofs.scoped.are_static.Given as goal

-- the rest decides
abbrev pub invariant-loop-watch : goal.invariant-loop-watch
invariant-loop-watch l = AllByRecursion IsStaticWatch l.watches ↔ AllByRecursion IsStaticWatch (drop l.watch-index l.watches)
