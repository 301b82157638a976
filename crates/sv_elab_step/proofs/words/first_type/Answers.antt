use Rattle.std.proofs.Common.{rules, ◌≡◌, sym, subst, IfOk}
use Rattle.sv_tree.specs.declared.expr.Expr.{the_lemmas}
use Rattle.sv_tree.specs.Expr as tree
use Rattle.sv_tree.specs.View.{actuals, expr_list, exprs_are}
use Rattle.sv_names.specs.Expressions.{first_type}
use Rattle.sv_names.specs.Views.{around_in}
use Rattle.sv_elab_step.proofs.words.first_type.Goals as goal

pub returns-in-Written-clause-ok : goal.returns-in-Written-clause-ok
returns-in-Written-clause-ok c =
    let whole : actuals c.args.actuals.now ≡ tree.Written (expr_list c.deref.result.now) = search (rules, the_lemmas, exprs_are) in
    subst (λ (a : tree.Actuals). IfOk c.type_of_first.result (λ t. t ≡ first_type (around_in c.args.around.now) a)) (sym whole) c.type_of_first.ensures.ok
