use Rattle.std.proofs.Common.{◌≡◌, ◌++◌, List, drop, map}
use Rattle.std.specs.Prelude.{flat_map}
use Rattle.sv_names.specs.Writers.{Touch}
use Rattle.sv_elab_writers.specs.Views.{process_in}
use Rattle.sv_elab_writers.specs.Counting.{counted_from}
use Rattle.sv_elab_writers.proofs.limits.count_processes.Given as goal

abbrev pub invariant-loop-process : goal.invariant-loop-process
invariant-loop-process l =
    (ts : List Touch) → counted_from l.counts (flat_map (λ p. p.touches) (map process_in (drop l.process-index l.processes)) ++ ts)
    ≡ counted_from l.initial.counts (flat_map (λ p. p.touches) (map process_in l.processes) ++ ts)
