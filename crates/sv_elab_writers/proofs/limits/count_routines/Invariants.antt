use Rattle.std.proofs.Common.{◌≡◌, ◌++◌, List, drop, map}
use Rattle.std.specs.Prelude.{flat_map}
use Rattle.sv_names.specs.Writers.{Touch}
use Rattle.sv_elab_writers.specs.Views.{routine_in}
use Rattle.sv_elab_writers.specs.Counting.{counted_from}
use Rattle.sv_elab_writers.proofs.limits.count_routines.Given as goal

abbrev pub invariant-loop-routine : goal.invariant-loop-routine
invariant-loop-routine l =
    (ts : List Touch) → counted_from l.counts (flat_map (λ e. e.1) (map routine_in (drop l.routine-index l.table)) ++ ts)
    ≡ counted_from l.initial.counts (flat_map (λ e. e.1) (map routine_in l.table) ++ ts)
