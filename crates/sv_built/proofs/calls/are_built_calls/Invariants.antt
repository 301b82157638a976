use Rattle.std.proofs.Common.{◌↔◌, drop}
use Rattle.std.specs.List.{AllByRecursion}
use Rattle.sv_built.specs.Built.{IsBuiltCall}
use Rattle.sv_built.proofs.calls.are_built_calls.Given as goal

-- the rest decides
abbrev pub invariant-loop-call : goal.invariant-loop-call
invariant-loop-call l = AllByRecursion IsBuiltCall l.calls ↔ AllByRecursion IsBuiltCall (drop l.call-index l.calls)
