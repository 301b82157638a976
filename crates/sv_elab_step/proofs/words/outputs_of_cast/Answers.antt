use Rattle.std.proofs.Common.{rules, ◌≡◌, sym, ap, ◌∙◌}
use Rattle.sv_tree.specs.declared.expr.Expr.{the_lemmas}
use Rattle.sv_tree.specs.Expr as tree
use Rattle.sv_tree.specs.View.{actuals, expr_list, exprs_are}
use Rattle.sv_names.specs.declared.system.System.TheVariants.{Cast}
use Rattle.sv_names.specs.Expressions.{outputs_of_system}
use Rattle.sv_elab_step.proofs.words.outputs_of_cast.Goals as goal

pub returns-in-Written : goal.returns-in-Written
returns-in-Written c =
    let whole : actuals c.args.actuals.now ≡ tree.Written (expr_list c.deref.result.now) = search (rules, the_lemmas, exprs_are) in
    c.outputs_of_items.ensures ∙ sym (ap (outputs_of_system Cast) whole)
