use Rattle.std.proofs.Common.{◌≡◌, ◌++◌, map}
use Rattle.std.specs.Prelude.{filter}
use Rattle.sv_elab_comb.specs.Spans.{span_in}
use Rattle.sv_elab_comb.specs.Combs.{is_watched}
use Rattle.sv_elab_comb.proofs.combs.watched_of.Given as goal

abbrev pub invariant-loop-operand : goal.invariant-loop-operand
invariant-loop-operand l =
    l.kept ++ filter (is_watched l.parts (map span_in l.written)) l.operand-iterator.rest.items
    ≡ filter (is_watched l.parts (map span_in l.written)) l.fn.operands
