use Rattle.std.proofs.Common.{◌≡◌, ◌++◌, map, length}
use Rattle.std.specs.Prelude.{flat_map}
use Rattle.sv_names.specs.Writers.{writes_of}
use Rattle.sv_elab_writers.specs.Views.{source_in, write_in}
use Rattle.sv_elab_writers.proofs.writes.add_own_writes.Given as goal

abbrev pub invariant-loop-left : goal.invariant-loop-left
invariant-loop-left l =
    map write_in l.writes ++ flat_map writes_of (map source_in l.left)
    ≡ map write_in l.initial.writes ++ flat_map writes_of (map source_in l.sources)

abbrev pub decreases-loop-left : goal.decreases-loop-left
decreases-loop-left l = length l.left
