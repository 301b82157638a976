use Rattle.std.proofs.Common.{◌≡◌, ◌++◌, List, [], sym, ap, ◌∙◌, append-nil}
use Rattle.std.specs.Vec.Iter.{into_iter_items}
use Rattle.std.proofs.lemmas.List.{nil_from_length}
use Rattle.sv_value.specs.declared.operator.Piece.{Piece}
use Rattle.sv_names.specs.Formats.{text_pieces}
use Rattle.sv_elab_print.proofs.strings.text_pieces.Goals as goal

pub returns-clause-ok : goal.returns-clause-ok
returns-clause-ok c =
    let texts = c.loop-piece.texts in
    let nothing : c.loop-piece.piece-iterator.rest.items ≡ [] =
    nil_from_length c.loop-piece.piece-iterator.rest.items (sym c.loop-piece.piece-iterator.rest.ok.0 ∙ c.in-None.ensures.steps.0) in
    sym (append-nil texts)
    ∙ sym (ap (λ (ps : List Piece). texts ++ text_pieces ps (into_iter_items c.loop-piece.left)) nothing) ∙ c.loop-piece.invariant
