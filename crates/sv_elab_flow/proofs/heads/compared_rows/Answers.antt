use Rattle.std.proofs.Common.{◌≡◌, ◌∙◌, List, [], sym, ap}
use Rattle.std.proofs.lemmas.List.{nil_from_length}
use Rattle.sv_names.specs.Cases.{Labels}
use Rattle.sv_elab_flow.specs.Heads as heads
use Rattle.sv_elab_flow.proofs.HeadLaws.{row_last}
use Rattle.sv_elab_flow.proofs.heads.compared_rows.Goals as goal

pub returns-clause-ok : goal.returns-clause-ok
returns-clause-ok c =
    let nothing : c.loop-row.row-iterator.rest.items ≡ [] =
    nil_from_length c.loop-row.row-iterator.rest.items (sym c.loop-row.row-iterator.rest.ok.0 ∙ c.in-None.ensures.steps.0) in
    sym (row_last c.loop-row.all)
    ∙ sym (ap (λ (ls : List Labels). heads.both_rows c.loop-row.all (heads.all_compared c.args.context ls)) nothing)
    ∙ c.loop-row.invariant
