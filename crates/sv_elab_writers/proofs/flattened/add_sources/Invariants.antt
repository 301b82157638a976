use Rattle.std.proofs.Common.{◌≡◌, ◌++◌, map, length}
use Rattle.sv_names.specs.Sources.{numbered}
use Rattle.sv_elab_writers.specs.Views.{process_in, source_in}
use Rattle.sv_elab_writers.proofs.flattened.add_sources.Given as goal

abbrev pub invariant-loop-left : goal.invariant-loop-left
invariant-loop-left l =
    map source_in l.numbered ++ numbered (length l.numbered) (map process_in l.left)
    ≡ map source_in l.initial.numbered ++ numbered (length l.initial.numbered) (map process_in l.processes)

abbrev pub decreases-loop-left : goal.decreases-loop-left
decreases-loop-left l = length l.left
