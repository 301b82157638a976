use Rattle.std.proofs.Common.{take}
use Rattle.sv_names.specs.Index.{IsIndexOf, names_of}
use Rattle.sv_names.proofs.name_index.index_of.Given as goal

abbrev pub invariant-loop-position : goal.invariant-loop-position
invariant-loop-position l = IsIndexOf l.index (names_of (take l.position l.known))
