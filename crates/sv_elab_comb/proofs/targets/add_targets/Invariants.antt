use Rattle.std.proofs.Common.{◌≡◌, ◌++◌, map, length}
use Rattle.sv_elab_comb.specs.Spans.{span_in, spans_of}
use Rattle.sv_elab_comb.proofs.targets.add_targets.Given as goal

abbrev pub invariant-loop-left : goal.invariant-loop-left
invariant-loop-left l =
    map span_in l.spans ++ spans_of l.left
    ≡ map span_in l.initial.spans ++ spans_of l.targets

abbrev pub decreases-loop-left : goal.decreases-loop-left
decreases-loop-left l = length l.left
