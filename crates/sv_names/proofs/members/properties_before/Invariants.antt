use Rattle.std.proofs.Common.{◌≡◌, ◌+◌, ◌-◌, ◌^◌, ◌<◌, min, drop}
use Rattle.sv_names.specs.Named.{properties_before}
use Rattle.sv_names.proofs.members.properties_before.Given as goal

abbrev pub invariant-loop-declaration : goal.invariant-loop-declaration
invariant-loop-declaration l =
    (l.size < 2 ^ 32)
    × (min (l.size + properties_before l.name (drop l.declaration-index l.known)) (2 ^ 32 - 1)
    ≡ min (properties_before l.name l.known) (2 ^ 32 - 1))
