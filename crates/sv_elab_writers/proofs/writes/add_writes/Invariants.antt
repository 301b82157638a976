use Rattle.std.proofs.Common.{◌≡◌, ◌++◌, map, length}
use Rattle.std.specs.Prelude.{flat_map}
use Rattle.sv_names.specs.Writers.{write_in as writes_in}
use Rattle.sv_elab_writers.specs.Views.{touch_in, writer_in, write_in}
use Rattle.sv_elab_writers.proofs.writes.add_writes.Given as goal

abbrev pub invariant-loop-left : goal.invariant-loop-left
invariant-loop-left l =
    map write_in l.writes ++ flat_map (writes_in l.process (writer_in l.writer)) (map touch_in l.left)
    ≡ map write_in l.initial.writes ++ flat_map (writes_in l.process (writer_in l.writer)) (map touch_in l.touches)

abbrev pub decreases-loop-left : goal.decreases-loop-left
decreases-loop-left l = length l.left
