use Rattle.std.proofs.Common.{◌≡◌, ◌++◌, drop}
use Rattle.sv_names.specs.Index.{places_from}
use Rattle.sv_names.proofs.declarations.places_of.Given as goal

abbrev pub invariant-loop-declaration : goal.invariant-loop-declaration
invariant-loop-declaration l = l.places ++ places_from l.place (drop l.declaration-index l.known) ≡ places_from 0 l.known
