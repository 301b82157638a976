use Rattle.std.proofs.Common.{◌≡◌, ◌++◌, map, length}
use Rattle.std.specs.Prelude.{flat_map}
use Rattle.sv_names.specs.Sources.{numbered}
use Rattle.sv_elab_writers.specs.Views.{met_in, source_in}
use Rattle.sv_elab_writers.proofs.flattened.sources_of.Given as goal

abbrev pub invariant-loop-left : goal.invariant-loop-left
invariant-loop-left l =
    map source_in l.numbered ++ numbered (length l.numbered) (flat_map (λ m. m.processes) (map met_in l.left))
    ≡ numbered 0 (flat_map (λ m. m.processes) (map met_in l.mets))

abbrev pub decreases-loop-left : goal.decreases-loop-left
decreases-loop-left l = length l.left
