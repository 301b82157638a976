use Rattle.std.proofs.Common.{◌≡◌, ◌++◌, List, drop, map}
use Rattle.sv_names.specs.Sources.{Process}
use Rattle.sv_elab_writers.specs.Views.{process_in}
use Rattle.sv_elab_writers.specs.Counting.{at_most_of}
use Rattle.sv_elab_writers.proofs.limits.behind_processes.Given as goal

abbrev pub invariant-loop-process : goal.invariant-loop-process
invariant-loop-process l =
    (ps : List Process) → at_most_of l.left (map process_in (drop l.process-index l.processes) ++ ps) ≡ at_most_of l.initial.left (map process_in l.processes ++ ps)
