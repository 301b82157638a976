use Rattle.std.proofs.Common.{Option, subst}
use Rattle.std.specs.Prelude.{option_to_list}
use Rattle.sv_names.specs.declared.argument.Arg.{Arg}
use Rattle.sv_names.specs.declared.checked.Checked.{Checked}
use Rattle.sv_names.specs.declared.method.Action.TheVariants as action
use Rattle.sv_names.specs.declared.method.Called.{Called}
use Rattle.sv_names.specs.Calls as calls
use Rattle.sv_names.specs.Given.{Gives}
use Rattle.sv_names.specs.Views.{around_in}
use Rattle.sv_elab_value.specs.Arguments.{first_two}
use Rattle.sv_elab_method.specs.Steps as steps
use Rattle.sv_elab_method.proofs.MethodLaws.{first_acted, insert_is, does}
use Rattle.sv_elab_method.proofs.methods.acted.Goals as goal

pub returns-in-Insert : goal.returns-in-Insert
returns-in-Insert c =
    let ar = around_in c.args.around.now in
    let gives = c.args.gives.now in
    does ar c.args.at gives c.args.object c.args.args c.insert.result (steps.insert ar c.args.at c.args.object (first_two c.args.args)) c.args.action action.Insert c.in-Insert.is
    (insert_is ar c.args.at gives c.args.object c.args.args) c.insert.ensures

pub returns-in_default : goal.returns-in_default
returns-in_default c =
    let ar = around_in c.args.around.now in
    let gives = c.args.gives.now in
    subst (λ (x : Checked Called). Gives c.acted_on.result x)
    (first_acted ar c.args.at gives c.args.object c.args.action c.in_default.not-Insert c.args.args)
    (subst (λ (o : Option Arg). Gives c.acted_on.result (calls.acted ar c.args.at c.args.action gives c.args.object (option_to_list o)))
    c.first_argument.ensures c.acted_on.ensures)
