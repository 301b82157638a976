use Rattle.std.proofs.Common.{rules, ◌≡◌, ◌∙◌, List, refl, sym, subst}
use Rattle.std.specs.Prelude.{OnOk}
use Rattle.sv_tree.specs.declared.expr.Lval.{Lval, the_lemmas}
use Rattle.sv_tree.specs.StmtView.{lval, lval_list, lvals_are}
use Rattle.sv_names.specs.Expressions.{as_expr, as_exprs}
use Rattle.sv_names.specs.Writers as writers
use Rattle.sv_names.specs.Views.{around_in}
use Rattle.sv_elab_touch.specs.Touched.{Touched}
use Rattle.sv_elab_touch.proofs.TouchedLaws.{item_turn}
use Rattle.sv_elab_touch.proofs.lvals.+written.Goals as goal

pub add_written-returns-in-Join : goal.add_written-returns-in-Join
add_written-returns-in-Join t c =
    let ar = around_in c.args.around.now in
    let whole : writers.target_touches c.args.how ar (as_expr (lval c.args.target.now)) ≡ writers.targets_touches c.args.how ar (as_exprs (lval_list c.deref-in-Join.result.now)) = search (rules, the_lemmas, lvals_are) in
    subst (λ (ts : List writers.Touch). OnOk c.add_all_written.result (Touched c.args.touches.now c.add_all_written.new.touches ts)) (sym whole) c.add_all_written.ensures

pub add_all_written-loop-item-preserved : goal.add_all_written-loop-item-preserved
add_all_written-loop-item-preserved t c =
    let ar = around_in c.args.around.now in
    item_turn (λ (xs : List Lval). writers.targets_touches c.args.how ar (as_exprs (lval_list xs))) c.args.items.now c.loop-item.item-index c.item-item.result c.loop-item.touches
    c.add_written.new.touches (writers.target_touches c.args.how ar (as_expr (lval c.item-item.result))) c.loop-item-test.true (sym c.item-item.is) refl c.in_ok-add_written.ensures
    ∙ c.loop-item.invariant
