use Rattle.std.proofs.Common.{rules, ◌≡◌, ◌∙◌, ◌+◌, List, ◌++◌, map, drop, refl, sym, ap, subst}
use Rattle.std.specs.Prelude.{OnOk}
use Rattle.sv_tree.specs.declared.expr.Expr.{Expr, the_lemmas}
use Rattle.sv_tree.specs.declared.expr.Actuals.{the_lemmas as actuals_lemmas}
use Rattle.sv_tree.specs.declared.expr.Suffix.{the_lemmas as suffix_lemmas}
use Rattle.sv_tree.specs.Expr as tree
use Rattle.sv_tree.specs.View.{expr, actuals, suffix, expr_list, exprs_are, suffix_list, suffixes_are}
use Rattle.sv_names.specs.Checked.{given}
use Rattle.sv_names.specs.Writers as writers
use Rattle.sv_names.specs.Views.{around_in}
use Rattle.sv_elab_writers.specs.Views.{touch_in}
use Rattle.sv_elab_name.specs.Things.{thing_in}
use Rattle.sv_elab_expr.specs.Walk.{stepped}
use Rattle.sv_elab_touch.specs.Touched.{Touched, name_touches, step_touches}
use Rattle.sv_elab_touch.proofs.TouchedLaws.{item_turn, turn_touched, left_from, touched_both, ok_given}
use Rattle.sv_elab_touch.proofs.StepLaws.{suffix_first}
use Rattle.sv_elab_touch.proofs.exprs.+exprs.Goals as goal

pub add_expr-returns-in-Post : goal.add_expr-returns-in-Post
add_expr-returns-in-Post t c =
    let ar = around_in c.args.around.now in
    let whole : writers.expr_touches ar (expr c.args.e.now) ≡ name_touches ar c.in-Post.root (suffix_list c.deref-in-Post.result.now) = search (rules, the_lemmas, suffixes_are) in
    subst (λ (ts : List writers.Touch). OnOk c.add_name.result (Touched c.args.touches.now c.add_name.new.touches ts)) (sym whole) c.add_name.ensures

pub add_expr-returns-in-Join : goal.add_expr-returns-in-Join
add_expr-returns-in-Join t c =
    let ar = around_in c.args.around.now in
    let whole : writers.expr_touches ar (expr c.args.e.now) ≡ writers.exprs_touches ar (expr_list c.deref-in-Join.result.now) = search (rules, the_lemmas, exprs_are) in
    subst (λ (ts : List writers.Touch). OnOk c.add_exprs.result (Touched c.args.touches.now c.add_exprs.new.touches ts)) (sym whole) c.add_exprs.ensures

pub add_expr-returns-in-Repeat : goal.add_expr-returns-in-Repeat
add_expr-returns-in-Repeat t c =
    let ar = around_in c.args.around.now in
    let whole : writers.expr_touches ar (expr c.args.e.now) ≡ writers.exprs_touches ar (expr_list c.deref-in-Repeat.result.now) = search (rules, the_lemmas, exprs_are) in
    subst (λ (ts : List writers.Touch). OnOk c.add_exprs-in-Repeat.result (Touched c.args.touches.now c.add_exprs-in-Repeat.new.touches ts)) (sym whole) c.add_exprs-in-Repeat.ensures

pub add_actuals-returns-in-Written : goal.add_actuals-returns-in-Written
add_actuals-returns-in-Written t c =
    let ar = around_in c.args.around.now in
    let whole : writers.actuals_touches ar (actuals c.args.actuals.now) ≡ writers.exprs_touches ar (expr_list c.deref.result.now) = search (rules, actuals_lemmas, exprs_are) in
    subst (λ (ts : List writers.Touch). OnOk c.add_exprs.result (Touched c.args.touches.now c.add_exprs.new.touches ts)) (sym whole) c.add_exprs.ensures

-- the arguments of a call
call_row : tree.Suffixes → tree.Exprs
call_row (tree.Call at es rest) = es
call_row s = tree.NoExpr

pub add_suffix-returns-in_ok-add_call-in-Call : goal.add_suffix-returns-in_ok-add_call-in-Call
unfolding call_row
add_suffix-returns-in_ok-add_call-in-Call t c =
    let ar = around_in c.args.around.now in
    let th = given thing_in c.args.thing.now in
    let es = expr_list c.deref.result.now in
    let fs = expr_list c.deref-in-Call.result.now in
    let whole : (rest : tree.Suffixes) → suffix c.args.suffix.now rest ≡ tree.Call c.in-Call.field-0 es rest = λ rest. search (rules, suffix_lemmas, exprs_are) in
    let again : suffix c.args.suffix.now tree.NoSuffix ≡ tree.Call c.in-Call.field-0 fs tree.NoSuffix = search (rules, suffix_lemmas, exprs_are) in
    ok_given c.add_exprs.result (Touched c.add_call.new.touches c.add_exprs.new.touches (writers.exprs_touches ar fs))
    ((rest : tree.Suffixes) → Touched c.args.touches.now c.add_exprs.new.touches (step_touches ar th (suffix c.args.suffix.now rest)))
    (λ added rest. touched_both c.args.touches.now c.add_call.new.touches c.add_exprs.new.touches (writers.call_touches ar th es) (writers.exprs_touches ar fs)
    c.in_ok-add_call-in-Call.ensures added
    ∙ ap (λ xs. map touch_in c.args.touches.now ++ (writers.call_touches ar th es ++ writers.exprs_touches ar xs)) (ap call_row (sym again ∙ whole tree.NoSuffix))
    ∙ ap (λ xs. map touch_in c.args.touches.now ++ step_touches ar th xs) (sym (whole rest)))
    c.add_exprs.ensures

pub add_exprs-loop-e-preserved : goal.add_exprs-loop-e-preserved
add_exprs-loop-e-preserved t c =
    let ar = around_in c.args.around.now in
    item_turn (λ (xs : List Expr). writers.exprs_touches ar (expr_list xs)) c.args.items.now c.loop-e.e-index c.e-item.result c.loop-e.touches
    c.add_expr.new.touches (writers.expr_touches ar (expr c.e-item.result)) c.loop-e-test.true (sym c.e-item.is) refl c.in_ok-add_expr.ensures
    ∙ c.loop-e.invariant

pub add_suffixes-loop-suffix-preserved : goal.add_suffixes-loop-suffix-preserved
add_suffixes-loop-suffix-preserved t c =
    let ar = around_in c.args.around.now in
    let pe = c.args.place in
    let ss = c.args.suffixes.now in
    let s = c.suffix-item.result in
    let th = given thing_in c.loop-suffix.thing in
    let rest = suffix_list (drop (c.loop-suffix.suffix-index + 1) ss) in
    ap (λ th'. map touch_in c.add_suffix.new.touches ++ writers.suffix_touches ar pe th' rest) (c.in_ok-thing.ensures rest)
    ∙ turn_touched c.loop-suffix.touches c.add_suffix.new.touches (step_touches ar th (suffix s rest))
    (writers.suffix_touches ar pe (stepped ar pe th (suffix s rest)) rest) (c.in_ok-add_suffix.ensures rest)
    ∙ ap (λ l. map touch_in c.loop-suffix.touches ++ l) (sym (suffix_first ar pe th s rest))
    ∙ ap (λ xs. map touch_in c.loop-suffix.touches ++ writers.suffix_touches ar pe th (suffix_list xs))
    (sym (left_from ss c.loop-suffix.suffix-index s c.loop-suffix-test.true (sym c.suffix-item.is)))
    ∙ c.loop-suffix.invariant
