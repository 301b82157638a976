use Rattle.sv_elab_flow.proofs.CaseLaws.{default_end}
use Rattle.sv_elab_flow.proofs.case.default_in.Goals as goal

pub returns-in_default : goal.returns-in_default
returns-in_default c = default_end c.loop-item.default _ _ c.loop-item.rest.now c.in_default.len_below c.loop-item.invariant
