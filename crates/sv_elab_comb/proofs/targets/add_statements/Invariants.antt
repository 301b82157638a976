use Rattle.std.proofs.Common.{◌≡◌, ◌++◌, map, length}
use Rattle.std.specs.Prelude.{flat_map}
use Rattle.sv_elab_comb.specs.Spans.{span_in, spans_of, targets_in}
use Rattle.sv_elab_comb.proofs.targets.add_statements.Given as goal

abbrev pub invariant-loop-left : goal.invariant-loop-left
invariant-loop-left l =
    map span_in l.spans ++ spans_of (flat_map targets_in (map (λ s. s.now) l.left))
    ≡ map span_in l.initial.spans ++ spans_of (flat_map targets_in (map (λ s. s.now) l.statements))

abbrev pub decreases-loop-left : goal.decreases-loop-left
decreases-loop-left l = length l.left
