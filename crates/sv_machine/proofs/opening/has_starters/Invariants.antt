use Rattle.std.proofs.Common.{◌≡◌, drop}
use Rattle.std.specs.List.{list_any}
use Rattle.sv_flat.specs.Config.{starts}
use Rattle.sv_machine.proofs.opening.has_starters.Given as goal

-- none was found
abbrev pub invariant-loop-process : goal.invariant-loop-process
invariant-loop-process l = list_any starts (drop l.process-index l.processes) ≡ list_any starts l.processes
