use Rattle.std.proofs.Common.{rules, ◌≡◌, ◌∙◌, List, Option, Some, sym, subst, ap}
use Rattle.std.specs.Prelude.{IfOk}
use Rattle.sv_tree.specs.declared.expr.Lval.{the_lemmas}
use Rattle.sv_tree.specs.Expr as tree
use Rattle.sv_tree.specs.StmtView.{lval, lval_list, lvals_are}
use Rattle.sv_tree.specs.View.{suffix_list}
use Rattle.sv_names.specs.declared.checked.Checked.{Checked}
use Rattle.sv_names.specs.Expressions.{as_concatenation, all_spots, target_in, as_expr}
use Rattle.sv_names.specs.Targets.{Spot}
use Rattle.sv_names.specs.Views.{around_in}
use Rattle.sv_elab_write.proofs.targets.+target.Goals as goal

pub target_in-returns-in_ok-target-in-Post-clause-ok : goal.target_in-returns-in_ok-target-in-Post-clause-ok
target_in-returns-in_ok-target-in-Post-clause-ok t c =
    let whole : lval c.args.target.now ≡ tree.Lval.Post c.in-Post.root (suffix_list c.deref.result.now) = search (rules, the_lemmas) in
    ap Some c.in_ok-target-in-Post.ensures.ok ∙ sym (ap (λ (l : tree.Lval). target_in c.args.how (around_in c.args.around.now) (as_expr l)) whole)

pub target_in-returns-in_ok-parts-in-Join-clause-ok : goal.target_in-returns-in_ok-parts-in-Join-clause-ok
target_in-returns-in_ok-parts-in-Join-clause-ok t c =
    let whole : lval c.args.target.now ≡ tree.Lval.Join c.in-Join.at (lval_list c.deref-in-Join.result.now) = search (rules, the_lemmas, lvals_are) in
    let made : as_concatenation c.in-Join.at (all_spots c.in_ok-parts-in-Join.parts.items)
    ≡ target_in c.args.how (around_in c.args.around.now) (as_expr (lval c.args.target.now)) =
    ap (λ ps. as_concatenation c.in-Join.at (all_spots ps)) c.in_ok-parts-in-Join.ensures.ok
    ∙ sym (ap (λ (l : tree.Lval). target_in c.args.how (around_in c.args.around.now) (as_expr l)) whole) in
    subst (λ (z : Option (Checked (List Spot))). IfOk c.as_concatenation.result (λ x. x ≡ z)) made c.as_concatenation.ensures.ok
