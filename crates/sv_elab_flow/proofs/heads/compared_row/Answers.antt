use Rattle.std.proofs.Common.{◌≡◌, ◌∙◌, List, [], sym, ap}
use Rattle.std.proofs.lemmas.List.{nil_from_length}
use Rattle.sv_names.specs.Cases.{Placed}
use Rattle.sv_names.specs.Hoisted.{in_row}
use Rattle.sv_elab_flow.specs.Heads as heads
use Rattle.sv_elab_flow.proofs.HeadLaws.{row_last}
use Rattle.sv_elab_flow.proofs.heads.compared_row.Goals as goal

pub returns-clause-ok : goal.returns-clause-ok
returns-clause-ok c =
    let nothing : c.loop-label.label-iterator.rest.items ≡ [] =
    nil_from_length c.loop-label.label-iterator.rest.items (sym c.loop-label.label-iterator.rest.ok.0 ∙ c.in-None.ensures.steps.0) in
    sym (row_last c.loop-label.row)
    ∙ sym (ap (λ (ps : List Placed). heads.both_rows c.loop-label.row (in_row (heads.compared c.args.context ps))) nothing)
    ∙ c.loop-label.invariant
