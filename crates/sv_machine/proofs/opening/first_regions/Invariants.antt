use Rattle.std.proofs.Common.{◌≡◌, take}
use Rattle.sv_machine.specs.Opening.{first_regions}
use Rattle.sv_machine.proofs.opening.first_regions.Given as goal

abbrev pub invariant-loop-number : goal.invariant-loop-number
invariant-loop-number l = l.regions ≡ first_regions l.has_starters (take l.number l.processes)
