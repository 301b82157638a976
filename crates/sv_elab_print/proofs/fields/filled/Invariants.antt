use Rattle.std.proofs.Common.{◌≡◌}
use Rattle.std.specs.Vec.Iter.{into_iter_items}
use Rattle.sv_names.specs.Formats.{and_then, filled, rest_after}
use Rattle.sv_elab_print.proofs.fields.filled.Given as goal

abbrev pub invariant-loop-piece : goal.invariant-loop-piece
invariant-loop-piece l =
    (and_then l.printed (filled l.at l.piece-iterator.rest.items (into_iter_items l.args))
    ≡ and_then l.initial.printed (filled l.at l.fn.pieces (into_iter_items l.initial.args)))
    × (rest_after l.piece-iterator.rest.items (into_iter_items l.args) ≡ rest_after l.fn.pieces (into_iter_items l.initial.args))
