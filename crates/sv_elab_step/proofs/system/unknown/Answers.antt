use Rattle.std.proofs.Common.{refl}
use Rattle.sv_names.specs.declared.typed.Typed.{Typed}
use Rattle.sv_names.specs.Arguments.{values_stand}
use Rattle.sv_names.specs.Checked.{broken_at}
use Rattle.sv_elab_step.proofs.system.unknown.Goals as goal

pub returns : goal.returns
returns c = c.where_also.ensures (broken_at {A = Typed} 55 c.args.at) (values_stand c.args.args.now) refl c.values_stand.ensures
