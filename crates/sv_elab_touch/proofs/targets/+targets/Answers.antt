use Rattle.std.proofs.Common.{rules, ◌≡◌, ◌∙◌, List, refl, sym, subst}
use Rattle.std.specs.Prelude.{OnOk}
use Rattle.sv_tree.specs.declared.expr.Expr.{Expr, the_lemmas}
use Rattle.sv_tree.specs.View.{expr, expr_list, exprs_are, suffix_list, suffixes_are}
use Rattle.sv_names.specs.Writers as writers
use Rattle.sv_names.specs.Views.{around_in}
use Rattle.sv_elab_touch.specs.Touched.{Touched}
use Rattle.sv_elab_touch.proofs.TouchedLaws.{item_turn}
use Rattle.sv_elab_touch.proofs.targets.+targets.Goals as goal

pub add_target-returns-in-Post : goal.add_target-returns-in-Post
add_target-returns-in-Post t c =
    let ar = around_in c.args.around.now in
    let whole : writers.target_touches c.args.how ar (expr c.args.e.now) ≡ writers.part_touches c.args.how ar c.in-Post.root (suffix_list c.deref.result.now) = search (rules, the_lemmas, suffixes_are) in
    subst (λ (ts : List writers.Touch). OnOk c.add_part.result (Touched c.args.touches.now c.add_part.new.touches ts)) (sym whole) c.add_part.ensures

pub add_target-returns-in-Join : goal.add_target-returns-in-Join
add_target-returns-in-Join t c =
    let ar = around_in c.args.around.now in
    let whole : writers.target_touches c.args.how ar (expr c.args.e.now) ≡ writers.targets_touches c.args.how ar (expr_list c.deref-in-Join.result.now) = search (rules, the_lemmas, exprs_are) in
    subst (λ (ts : List writers.Touch). OnOk c.add_targets.result (Touched c.args.touches.now c.add_targets.new.touches ts)) (sym whole) c.add_targets.ensures

pub add_targets-loop-e-preserved : goal.add_targets-loop-e-preserved
add_targets-loop-e-preserved t c =
    let ar = around_in c.args.around.now in
    item_turn (λ (xs : List Expr). writers.targets_touches c.args.how ar (expr_list xs)) c.args.items.now c.loop-e.e-index c.e-item.result c.loop-e.touches
    c.add_target.new.touches (writers.target_touches c.args.how ar (expr c.e-item.result)) c.loop-e-test.true (sym c.e-item.is) refl c.in_ok-add_target.ensures
    ∙ c.loop-e.invariant
