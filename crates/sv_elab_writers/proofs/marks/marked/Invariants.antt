use Rattle.std.proofs.Common.{map, take}
use Rattle.sv_elab_writers.specs.Marks.{HasWrites}
use Rattle.sv_elab_writers.specs.Views.{write_in}
use Rattle.sv_elab_writers.proofs.marks.marked.Given as goal

abbrev pub invariant-loop-write : goal.invariant-loop-write
invariant-loop-write l = HasWrites l.marked (map write_in (take l.write-index l.writes))
