use Rattle.std.proofs.Common.{◌≡◌, drop, map}
use Rattle.sv_names.specs.Writers.{some}
use Rattle.sv_elab_writers.specs.Views.{write_in}
use Rattle.sv_elab_writers.specs.Laws.{clashes}
use Rattle.sv_elab_writers.proofs.clashes.has_clash.Given as goal

abbrev pub invariant-loop-v : goal.invariant-loop-v
invariant-loop-v l =
    some (clashes l.law (write_in l.w)) (map write_in (drop l.v-index l.writes)) ≡ some (clashes l.law (write_in l.w)) (map write_in l.writes)
