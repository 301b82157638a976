use Rattle.sv_tree.specs.Expr as tree
use Rattle.sv_tree.specs.View as view
use Rattle.sv_names.specs.Checked.{both}
use Rattle.sv_names.specs.Views.{around_in}
use Rattle.sv_elab_connect.proofs.GivingLaws.{both_good, both_broken}
use Rattle.sv_elab_connect.proofs.giving.continuous.Goals as goal

pub returns-in-Ok : goal.returns-in-Ok
returns-in-Ok c t v it iv =
    both_good (around_in c.args.around.now) c.args.at c.args.kind c.args.before.now c.made.new.before c.args.routines.now c.made.new.routines
    c.made.result c.in-Ok.spots c.in-Ok.value c.place_of-place.result (tree.place_of (view.expr c.args.of.now)) (both t v)
    (c.in-Ok.ensures t v it iv) c.place_of-place.ensures c.made.ensures

pub returns-in-Err : goal.returns-in-Err
returns-in-Err c t v it iv =
    both_broken (around_in c.args.around.now) c.args.at c.args.kind (tree.place_of (view.expr c.args.of.now)) (both t v) c.in-Err.e
    (c.in-Err.ensures t v it iv)
