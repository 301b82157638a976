use Rattle.sv_elab_select.proofs.Targeted.{target_first}
use Rattle.sv_elab_select.proofs.targets.may_be_written.Goals as goal

pub returns-in-Err : goal.returns-in-Err
returns-in-Err c = target_first c.args.how c.args.at c.args.t c.in-Err.e c.in-Err.ensures
