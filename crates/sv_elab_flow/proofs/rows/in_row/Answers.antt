use Rattle.std.proofs.Common.{◌∙◌, sym}
use Rattle.std.proofs.lemmas.List.{nil_from_length}
use Rattle.sv_elab_flow.proofs.HeadLaws.{row_rest}
use Rattle.sv_elab_flow.proofs.rows.in_row.Goals as goal

pub returns-clause-ok : goal.returns-clause-ok
returns-clause-ok g c =
    row_rest c.loop-part.row c.loop-part.part-iterator.rest.items _
    (nil_from_length c.loop-part.part-iterator.rest.items (sym c.loop-part.part-iterator.rest.ok.0 ∙ c.in-None.ensures.steps.0))
    c.loop-part.invariant
