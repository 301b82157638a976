use Rattle.std.proofs.Common.{◌≡◌, List, [], sym, ap, ◌∙◌}
use Rattle.std.specs.Vec.Iter.{into_iter_items}
use Rattle.std.proofs.lemmas.List.{nil_from_length}
use Rattle.sv_value.specs.declared.operator.Piece.{Piece}
use Rattle.sv_names.specs.Formats.{and_then, filled, rest_after}
use Rattle.sv_elab_print.proofs.PrintLaws.{then_last}
use Rattle.sv_elab_print.proofs.fields.filled.Goals as goal

pub returns-clause-ok : goal.returns-clause-ok
returns-clause-ok c =
    let nothing : c.loop-piece.piece-iterator.rest.items ≡ [] =
    nil_from_length c.loop-piece.piece-iterator.rest.items (sym c.loop-piece.piece-iterator.rest.ok.0 ∙ c.in-None.ensures.steps.0) in
    sym (then_last c.loop-piece.printed)
    ∙ sym (ap (λ (ps : List Piece). and_then c.loop-piece.printed (filled c.args.at ps (into_iter_items c.loop-piece.args))) nothing)
    ∙ c.loop-piece.invariant.0

pub returns-clause-rest : goal.returns-clause-rest
returns-clause-rest c =
    let nothing : c.loop-piece.piece-iterator.rest.items ≡ [] =
    nil_from_length c.loop-piece.piece-iterator.rest.items (sym c.loop-piece.piece-iterator.rest.ok.0 ∙ c.in-None.ensures.steps.0) in
    sym (ap (λ (ps : List Piece). rest_after ps (into_iter_items c.loop-piece.args)) nothing) ∙ c.loop-piece.invariant.1
