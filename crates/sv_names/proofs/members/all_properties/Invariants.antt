use Rattle.std.proofs.Common.{◌≡◌, ◌+◌, ◌-◌, ◌^◌, ◌<◌, min, drop}
use Rattle.sv_names.specs.Named.{all_properties}
use Rattle.sv_names.proofs.members.all_properties.Given as goal

abbrev pub invariant-loop-declaration : goal.invariant-loop-declaration
invariant-loop-declaration l =
    (l.size < 2 ^ 32)
    × (min (l.size + all_properties (drop l.declaration-index l.known)) (2 ^ 32 - 1) ≡ min (all_properties l.known) (2 ^ 32 - 1))
