use Rattle.std.proofs.Common.{◌≡◌, take, map}
use Rattle.sv_elab_comb.specs.Combs.{new_watches}
use Rattle.sv_elab_comb.proofs.processes.all_watches.Given as goal

abbrev pub invariant-loop-process : goal.invariant-loop-process
invariant-loop-process l = l.list ≡ map (new_watches l.parts) (take l.process-index l.parts.processes)
