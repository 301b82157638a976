use Rattle.std.proofs.Common.{◌↔◌, drop}
use Rattle.std.specs.List.{AllByRecursion}
use Rattle.sv_built.specs.Built.{IsBuiltProcess}
use Rattle.sv_built.proofs.built.are_built_processes.Given as goal

-- the rest decides
abbrev pub invariant-loop-process : goal.invariant-loop-process
invariant-loop-process l = AllByRecursion IsBuiltProcess l.processes ↔ AllByRecursion IsBuiltProcess (drop l.process-index l.processes)
