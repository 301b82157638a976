use Rattle.std.proofs.Common.{◌≡◌, List, [], sym, ap, ◌∙◌}
use Rattle.std.proofs.lemmas.List.{nil_from_length}
use Rattle.sv_flat.specs.declared.call.Argument.{Argument}
use Rattle.sv_names.specs.declared.hoisted.Hoisted.{Hoisted}
use Rattle.sv_names.specs.Hoisted.{in_row}
use Rattle.sv_elab_call.proofs.RowLaws.{both_rows, row_last}
use Rattle.sv_elab_call.proofs.rows.in_row.Goals as goal

pub returns-clause-ok : goal.returns-clause-ok
returns-clause-ok c =
    let nothing : c.loop-argument.argument-iterator.rest.items ≡ [] =
    nil_from_length c.loop-argument.argument-iterator.rest.items (sym c.loop-argument.argument-iterator.rest.ok.0 ∙ c.in-None.ensures.steps.0) in
    sym (row_last c.loop-argument.row)
    ∙ sym (ap (λ (as' : List (Hoisted Argument)). both_rows c.loop-argument.row (in_row as')) nothing)
    ∙ c.loop-argument.invariant
