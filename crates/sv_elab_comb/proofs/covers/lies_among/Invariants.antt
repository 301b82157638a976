use Rattle.std.proofs.Common.{◌≡◌, drop, map}
use Rattle.sv_elab_comb.specs.Spans.{span_in, lies_among}
use Rattle.sv_elab_comb.proofs.covers.lies_among.Given as goal

abbrev pub invariant-loop-one : goal.invariant-loop-one
invariant-loop-one l =
    lies_among l.width (span_in l.span) (map span_in (drop l.one-index l.written))
    ≡ lies_among l.width (span_in l.span) (map span_in l.written)
