use Rattle.std.proofs.Common.{◌≡◌, take, map}
use Rattle.sv_machine.specs.Opening.{first_member}
use Rattle.sv_machine.proofs.opening.first_tree.Given as goal

abbrev pub invariant-loop-process : goal.invariant-loop-process
invariant-loop-process l = l.tree ≡ map first_member (take l.process-index l.processes)
