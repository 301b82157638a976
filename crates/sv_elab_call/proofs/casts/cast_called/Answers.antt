use Rattle.std.proofs.Common.{subst}
use Rattle.sv_names.specs.declared.checked.Checked.{Checked}
use Rattle.sv_names.specs.declared.method.Called.{Called}
use Rattle.sv_names.specs.Calls.{call_stands}
use Rattle.sv_names.specs.Given.{Gives}
use Rattle.sv_names.specs.Views.{around_in}
use Rattle.sv_elab_call.specs.Casting.{cast_of}
use Rattle.sv_elab_call.proofs.CastLaws.{cast_called_is}
use Rattle.sv_elab_call.proofs.casts.cast_called.Goals as goal

pub returns : goal.returns
returns c =
    let ar = around_in c.args.around.now in
    subst (λ (x : Checked Called). Gives c.where_also.result x) (cast_called_is ar c.args.answers c.args.at c.args.args)
    (c.where_also.ensures (cast_of ar c.args.answers c.args.at c.args.args) (call_stands ar c.args.at) c.cast_of.ensures c.call_stands.ensures)
