use Rattle.std.proofs.Common.{◌∙◌, Bool, List, ap, subst}
use Rattle.sv_tree.specs.View as tree_view
use Rattle.sv_names.specs.declared.argument.Arg.{Arg}
use Rattle.sv_names.specs.Assignments.{new_at_opening}
use Rattle.sv_names.specs.Expressions.{actual_args}
use Rattle.sv_names.specs.Given.{Gives}
use Rattle.sv_names.specs.Views.{around_in}
use Rattle.sv_elab_variable.proofs.openings.new_opening.Goals as goal

pub returns : goal.returns
returns c =
    let ar = around_in c.args.around.now in
    subst (λ (as' : List Arg). Gives c.made_opening.result (new_at_opening ar c.args.at c.args.ty.now c.args.place as'))
    (c.in_ok-args.ensures.ok
    ∙ ap (λ (os : List Bool). actual_args ar os (tree_view.actuals c.args.actuals.now)) (c.as_slice.ensures ∙ c.in_ok-outputs.ensures.ok))
    c.made_opening.ensures
