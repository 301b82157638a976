use Rattle.sv_elab_flow.proofs.CaseLaws.{labelled_end}
use Rattle.sv_elab_flow.proofs.case.with_labels.Goals as goal

pub returns-in_default-clause-ok : goal.returns-in_default-clause-ok
returns-in_default-clause-ok c = labelled_end c.loop-item.ids _ _ c.loop-item.rest.now c.in_default.len_below c.loop-item.invariant
