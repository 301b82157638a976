use Rattle.std.proofs.Common.{◌≡◌, ◌++◌, map, length}
use Rattle.sv_elab_comb.specs.Spans.{span_in, spans_of}
use Rattle.sv_elab_comb.specs.Combs.{written_in}
use Rattle.sv_elab_comb.proofs.combs.written_in.Given as goal

abbrev pub invariant-loop-left : goal.invariant-loop-left
invariant-loop-left l =
    map span_in l.spans ++ spans_of (written_in l.parts l.left)
    ≡ map span_in l.initial.spans ++ spans_of (written_in l.parts l.ids)

abbrev pub decreases-loop-left : goal.decreases-loop-left
decreases-loop-left l = length l.left
