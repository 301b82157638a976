use Rattle.std.proofs.Common.{◌≡◌, List, [], sym, ap, ◌∙◌}
use Rattle.std.proofs.lemmas.List.{nil_from_length}
use Rattle.sv_flat.specs.Expr as flat
use Rattle.sv_names.specs.declared.hoisted.Hoisted.{Hoisted}
use Rattle.sv_names.specs.Hoisted.{in_row}
use Rattle.sv_elab_print.specs.Printing.{rows}
use Rattle.sv_elab_print.proofs.TextLaws.{row_ends}
use Rattle.sv_elab_print.proofs.strings.in_row.Goals as goal

pub returns-clause-ok : goal.returns-clause-ok
returns-clause-ok c =
    let row = c.loop-part.row in
    let nothing : c.loop-part.part-iterator.rest.items ≡ [] =
    nil_from_length c.loop-part.part-iterator.rest.items (sym c.loop-part.part-iterator.rest.ok.0 ∙ c.in-None.ensures.steps.0) in
    sym (row_ends row) ∙ sym (ap (λ (es : List (Hoisted flat.Expr)). rows row (in_row es)) nothing) ∙ c.loop-part.invariant
