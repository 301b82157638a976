use Rattle.std.proofs.Common.{◌≡◌, ◌++◌, map, length}
use Rattle.std.specs.Prelude.{flat_map}
use Rattle.sv_flat.specs.Names.{optional_targets}
use Rattle.sv_elab_comb.specs.Spans.{span_in, spans_of}
use Rattle.sv_elab_comb.proofs.targets.add_arguments.Given as goal

abbrev pub invariant-loop-left : goal.invariant-loop-left
invariant-loop-left l =
    map span_in l.spans ++ spans_of (flat_map (λ a. optional_targets a.targets) l.left)
    ≡ map span_in l.initial.spans ++ spans_of (flat_map (λ a. optional_targets a.targets) l.arguments)

abbrev pub decreases-loop-left : goal.decreases-loop-left
decreases-loop-left l = length l.left
