use Rattle.std.proofs.Common.{◌≡◌, ◌++◌, List, drop, map}
use Rattle.sv_names.specs.Writers.{Touch}
use Rattle.sv_elab_writers.specs.Views.{touch_in}
use Rattle.sv_elab_writers.specs.Counting.{counted_from}
use Rattle.sv_elab_writers.proofs.limits.count_touches.Given as goal

abbrev pub invariant-loop-touch : goal.invariant-loop-touch
invariant-loop-touch l =
    (ts : List Touch) → counted_from l.counts (map touch_in (drop l.touch-index l.touches) ++ ts) ≡ counted_from l.initial.counts (map touch_in l.touches ++ ts)
