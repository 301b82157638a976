use Rattle.std.proofs.Common.{List, length, drop, ap, subst, ◌∙◌}
use Rattle.sv_flat.specs.declared.call.Argument.{Argument}
use Rattle.sv_names.specs.declared.argument.Arg.{Arg}
use Rattle.sv_names.specs.declared.checked.Checked.{Checked}
use Rattle.sv_names.specs.declared.hoisted.Hoisted.{Hoisted}
use Rattle.sv_names.specs.Given.{Gives}
use Rattle.sv_names.specs.Views.{around_in}
use Rattle.sv_elab_call.specs.Passing.{passed, none_left}
use Rattle.sv_elab_call.proofs.PassingLaws.{all_passed}
use Rattle.sv_elab_call.proofs.passing.arguments.Goals as goal

pub returns : goal.returns
returns c =
    let ar = around_in c.args.around.now in
    let formals = c.args.formals.now in
    subst (λ (x : Checked (List (Hoisted Argument))). Gives c.where_also.result x) (all_passed ar c.args.at formals c.args.args)
    (c.where_also.ensures (passed ar c.args.at formals c.args.args) (none_left c.args.at (drop (length formals) c.args.args)) c.passed.ensures
    (subst (λ (as' : List Arg). Gives c.none_left-left.result (none_left c.args.at as')) (c.behind.ensures ∙ ap (drop (length formals)) c.as_slice.ensures)
    c.none_left-left.ensures))
