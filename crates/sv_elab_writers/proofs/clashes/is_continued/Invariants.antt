use Rattle.std.proofs.Common.{◌≡◌, drop, map}
use Rattle.sv_names.specs.Writers.{some}
use Rattle.sv_elab_writers.specs.Views.{write_in}
use Rattle.sv_elab_writers.specs.Laws.{continues}
use Rattle.sv_elab_writers.proofs.clashes.is_continued.Given as goal

abbrev pub invariant-loop-v : goal.invariant-loop-v
invariant-loop-v l =
    some (continues l.object) (map write_in (drop l.v-index l.writes)) ≡ some (continues l.object) (map write_in l.writes)
