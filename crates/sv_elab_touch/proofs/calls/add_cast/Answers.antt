use Rattle.std.proofs.Common.{rules, ◌≡◌, List, sym, subst}
use Rattle.std.specs.Prelude.{OnOk}
use Rattle.sv_tree.specs.declared.expr.Actuals.{the_lemmas}
use Rattle.sv_tree.specs.View.{actuals, expr_list, exprs_are}
use Rattle.sv_names.specs.Writers as writers
use Rattle.sv_names.specs.Views.{around_in}
use Rattle.sv_elab_touch.specs.Touched.{Touched}
use Rattle.sv_elab_touch.proofs.calls.add_cast.Goals as goal

pub returns-in-Written : goal.returns-in-Written
returns-in-Written c =
    let ar = around_in c.args.around.now in
    let whole : writers.cast_touches ar c.args.system (actuals c.args.actuals.now) ≡ writers.first_target ar (expr_list c.deref.result.now) = search (rules, the_lemmas, exprs_are) in
    subst (λ (ts : List writers.Touch). OnOk c.add_first_target.result (Touched c.args.touches.now c.add_first_target.new.touches ts)) (sym whole) c.add_first_target.ensures
