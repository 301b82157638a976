use Rattle.std.proofs.Common.{rules, ◌≡◌, sym, subst, IfOk}
use Rattle.sv_tree.specs.declared.expr.Expr.{the_lemmas}
use Rattle.sv_tree.specs.Expr as tree
use Rattle.sv_tree.specs.View.{expr, suffix_list, suffixes_are}
use Rattle.sv_names.specs.Expressions.{type_in}
use Rattle.sv_names.specs.Views.{around_in}
use Rattle.sv_elab_step.proofs.words.type_in.Goals as goal

pub returns-in-Post-clause-ok : goal.returns-in-Post-clause-ok
returns-in-Post-clause-ok c =
    let whole : expr c.args.e.now ≡ tree.Post c.in-Post.root (suffix_list c.deref.result.now) = search (rules, the_lemmas, suffixes_are) in
    subst (λ (e : tree.Expr). IfOk c.type_of_post.result (λ t. t ≡ type_in (around_in c.args.around.now) e)) (sym whole) c.type_of_post.ensures.ok
