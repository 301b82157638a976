use Rattle.std.proofs.Common.{refl}
use Rattle.sv_flat.specs.declared.stmt.Form.{Form}
use Rattle.sv_names.specs.declared.hoisted.Hoisted.{Hoisted}
use Rattle.sv_names.specs.Arguments.{values_stand}
use Rattle.sv_names.specs.Checked.{broken_at}
use Rattle.sv_elab_task.proofs.ends.refused.Goals as goal

pub returns : goal.returns
returns c =
    c.where_also.ensures (broken_at {A = Hoisted Form} c.args.rule c.args.at) (values_stand c.args.args.now) refl c.values_stand.ensures
