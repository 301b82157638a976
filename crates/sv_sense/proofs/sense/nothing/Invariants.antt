use Rattle.std.proofs.Common.{◌≡◌, None, take, map}
use Rattle.sv_sense.proofs.sense.nothing.Given as goal

abbrev pub invariant-loop-process : goal.invariant-loop-process
invariant-loop-process l = l.known.items ≡ map (λ p. None) (take l._process-index l.processes)
