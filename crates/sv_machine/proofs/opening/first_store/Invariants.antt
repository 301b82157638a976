use Rattle.std.proofs.Common.{◌≡◌, drop, []}
use Rattle.sv_flat.specs.Opening.{initializers_run, opening_world}
use Rattle.sv_assign.specs.Seen.{world_in}
use Rattle.sv_machine.proofs.opening.first_store.Given as goal

-- what the initializers that are left make of it
abbrev pub invariant-loop-number : goal.invariant-loop-number
invariant-loop-number l = initializers_run l.design l.number (drop l.number l.design.objects) (world_in l.store []) ≡ opening_world l.design
