use Rattle.std.proofs.Common.{rules, ◌≡◌, sym, subst}
use Rattle.std.specs.Prelude.{IfOk}
use Rattle.sv_tree.specs.declared.expr.Actuals.{the_lemmas}
use Rattle.sv_tree.specs.Expr as tree
use Rattle.sv_tree.specs.View.{actuals, expr_list, exprs_are}
use Rattle.sv_names.specs.Expressions as expressions
use Rattle.sv_names.specs.Views.{around_in}
use Rattle.sv_elab_write.proofs.news.actual_args.Goals as goal

pub returns-in-Written-clause-ok : goal.returns-in-Written-clause-ok
returns-in-Written-clause-ok c =
    let ar = around_in c.args.around.now in
    let whole : actuals c.args.actuals.now ≡ tree.Written (expr_list c.deref.result.now) = search (rules, the_lemmas, exprs_are) in
    subst (λ (a : tree.Actuals). IfOk c.args-in-Written.result (λ as'. as' ≡ expressions.actual_args ar c.args.outputs.now a)) (sym whole)
    c.args-in-Written.ensures.ok
