use Rattle.sv_tree.specs.View as tree_view
use Rattle.sv_names.specs.Expressions as expressions
use Rattle.sv_names.specs.Views.{around_in}
use Rattle.sv_elab_variable.proofs.openings.value_opening.Goals as goal

pub returns : goal.returns
returns c =
    let e = tree_view.expr c.args.e.now in
    c.value_at_opening.ensures e c.place_of.ensures (c.in_ok-value.ensures.ok (expressions.expr (around_in c.args.around.now) e) c.expr.ensures)
