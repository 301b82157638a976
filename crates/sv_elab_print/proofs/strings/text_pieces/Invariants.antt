use Rattle.std.proofs.Common.{◌≡◌, ◌++◌}
use Rattle.std.specs.Vec.Iter.{into_iter_items}
use Rattle.sv_names.specs.Formats.{text_pieces}
use Rattle.sv_elab_print.proofs.strings.text_pieces.Given as goal

abbrev pub invariant-loop-piece : goal.invariant-loop-piece
invariant-loop-piece l =
    l.texts ++ text_pieces l.piece-iterator.rest.items (into_iter_items l.left) ≡ text_pieces l.fn.pieces l.fn.values
