use Rattle.std.proofs.Common.{◌≡◌, List, [], sym, ap, ◌∙◌}
use Rattle.std.proofs.lemmas.List.{nil_from_length}
use Rattle.sv_flat.specs.Expr as flat
use Rattle.sv_names.specs.declared.hoisted.Hoisted.{Hoisted}
use Rattle.sv_names.specs.Hoisted.{in_row}
use Rattle.sv_elab_task.proofs.RowLaws.{both_rows, row_last}
use Rattle.sv_elab_task.proofs.rows.in_row.Goals as goal

pub returns-clause-ok : goal.returns-clause-ok
returns-clause-ok c =
    let nothing : c.loop-value.value-iterator.rest.items ≡ [] =
    nil_from_length c.loop-value.value-iterator.rest.items (sym c.loop-value.value-iterator.rest.ok.0 ∙ c.in-None.ensures.steps.0) in
    sym (row_last c.loop-value.row)
    ∙ sym (ap (λ (es : List (Hoisted flat.Expr)). both_rows c.loop-value.row (in_row es)) nothing)
    ∙ c.loop-value.invariant
