use Rattle.sv_machine.proofs.ReadyLaws.{SoFar}
use Rattle.sv_machine.proofs.wakes.make_ready.Given as goal

-- so far, and what is left
abbrev pub invariant-loop-process : goal.invariant-loop-process
invariant-loop-process l = SoFar l.tree l.processes l.initial.regions l.process-index l.regions
