use Rattle.std.proofs.Common.{◌≡◌, false, take, map}
use Rattle.sv_machine.proofs.opening.never_taken.Given as goal

abbrev pub invariant-loop-process : goal.invariant-loop-process
invariant-loop-process l = l.all.items ≡ map (λ f. false) (take l._process-index l.processes)
