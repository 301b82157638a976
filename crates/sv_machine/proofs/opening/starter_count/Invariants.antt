use Rattle.std.proofs.Common.{◌≡◌, ◌≤◌, ◌+◌, drop}
use Rattle.sv_machine.specs.Opening.{starter_count}
use Rattle.sv_machine.proofs.opening.starter_count.Given as goal

-- those before were counted
abbrev pub invariant-loop-process : goal.invariant-loop-process
invariant-loop-process l = (l.count + starter_count (drop l.process-index l.processes) ≡ starter_count l.processes) × (l.count ≤ l.process-index)
