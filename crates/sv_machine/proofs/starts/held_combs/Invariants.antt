use Rattle.std.proofs.Common.{◌≡◌, ◌++◌, drop}
use Rattle.sv_machine.specs.Starts.{held_from}
use Rattle.sv_machine.proofs.starts.held_combs.Given as goal

-- those found so far, and those of the rest
abbrev pub invariant-loop-number : goal.invariant-loop-number
invariant-loop-number l = l.held.items ++ held_from l.number (drop l.number l.processes) (drop l.number l.taken) ≡ held_from 0 l.processes l.taken
