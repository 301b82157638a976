use Rattle.std.proofs.Common.{rules, ◌≡◌, ◌∙◌, ◌+◌, List, [], ◌∷◌, Option, Some, drop, sym, subst, ap}
use Rattle.std.specs.Prelude.{◌==◌, IfOk}
use Rattle.sv_tree.specs.declared.expr.Expr.{the_lemmas}
use Rattle.sv_tree.specs.declared.expr.Actuals.{the_lemmas as actuals_lemmas}
use Rattle.sv_tree.specs.declared.expr.Suffix.{the_lemmas as suffix_lemmas}
use Rattle.sv_tree.specs.Expr as tree
use Rattle.sv_tree.specs.View.{expr, actuals, suffix, expr_list, exprs_are, suffix_list, suffixes_are}
use Rattle.sv_names.specs.Arguments.{parts_of}
use Rattle.sv_names.specs.declared.checked.Checked.{Checked}
use Rattle.sv_names.specs.Checked.{◌▷◌, given, fault_of}
use Rattle.sv_names.specs.Expressions as expressions
use Rattle.sv_names.specs.Expressions.{before_select, called_with, selected_by, as_concatenation, all_spots, target_in}
use Rattle.sv_names.specs.Targets.{Spot}
use Rattle.sv_names.specs.Things.{Thing, select_step}
use Rattle.sv_names.specs.Given.{Gives}
use Rattle.sv_names.specs.Operators.{join_of, repeat_of}
use Rattle.sv_names.specs.Values.{constant_count}
use Rattle.sv_names.specs.Views.{around_in}
use Rattle.sv_elab_name.specs.Things.{thing_in}
use Rattle.sv_elab_step.specs.Before.{or_else}
use Rattle.sv_elab_expr.specs.Walk.{stepped}
use Rattle.sv_elab_expr.proofs.WalkLaws.{ok_mapped, end_of_list, left_after, thing_after, before_after, select_made}
use Rattle.sv_elab_expr.proofs.table.+elaborate.Goals as goal

pub apart-returns-in-Join : goal.apart-returns-in-Join
apart-returns-in-Join t c =
    let parts = parts_of (expressions.args (around_in c.args.around.now) [] (expr_list c.deref.result.now)) in
    let whole : expr c.args.e.now ≡ tree.Join c.in-Join.at (expr_list c.deref.result.now) = search (rules, the_lemmas, exprs_are) in
    subst (λ (e : tree.Expr). Gives c.join.result (expressions.expr (around_in c.args.around.now) e)) (sym whole) (c.join.ensures parts c.joined.ensures)

pub apart-returns-in-Repeat : goal.apart-returns-in-Repeat
apart-returns-in-Repeat t c =
    let ar = around_in c.args.around.now in
    let parts = parts_of (expressions.args ar [] (expr_list c.deref-in-Repeat-3.result.now)) in
    let part = c.join-part.ensures parts c.joined-in-Repeat.ensures in
    let count = c.counted-n.ensures (expressions.expr ar (expr c.deref-in-Repeat-2.result.now)) c.expr.ensures in
    let whole : expr c.args.e.now ≡ tree.Repeat c.in-Repeat.at (expr c.deref-in-Repeat-2.result.now) c.in-Repeat.inner (expr_list c.deref-in-Repeat-3.result.now) = search (rules, the_lemmas, exprs_are) in
    let placed : c.place_of.result ≡ tree.place_of (expr c.deref-in-Repeat-2.result.now) = search (rules, the_lemmas, exprs_are) in
    subst (λ (e : tree.Expr). Gives c.repeat.result (expressions.expr ar e)) (sym whole)
    (subst (λ p. Gives c.repeat.result (repeat_of c.in-Repeat.at (expressions.expr ar (expr c.deref-in-Repeat-2.result.now) ▷ constant_count p) (parts ▷ join_of c.in-Repeat.inner))) placed (c.repeat.ensures _ _ count part))

pub expr-returns-in-Post : goal.expr-returns-in-Post
expr-returns-in-Post t c =
    let whole : expr c.args.e.now ≡ tree.Post c.in-Post.root (suffix_list c.deref.result.now) = search (rules, the_lemmas, suffixes_are) in
    subst (λ (e : tree.Expr). Gives c.named.result (expressions.expr (around_in c.args.around.now) e)) (sym whole) c.named.ensures

pub actual_args-returns-in-Written-clause-ok : goal.actual_args-returns-in-Written-clause-ok
actual_args-returns-in-Written-clause-ok t c =
    let ar = around_in c.args.around.now in
    let whole : actuals c.args.actuals.now ≡ tree.Written (expr_list c.deref.result.now) = search (rules, actuals_lemmas, exprs_are) in
    subst (λ (a : tree.Actuals). IfOk c.args-in-Written.result (λ as'. as' ≡ expressions.actual_args ar c.args.outputs.now a)) (sym whole)
    c.args-in-Written.ensures.ok

pub behind_root-loop-suffix-preserved : goal.behind_root-loop-suffix-preserved
behind_root-loop-suffix-preserved t c =
    thing_after (around_in c.args.around.now) c.args.place (given thing_in c.loop-suffix.thing) (given thing_in c.in_ok-thing.thing)
    c.args.suffixes.now c.loop-suffix.suffix-index c.suffix-item.result c.loop-suffix-test.true (sym c.suffix-item.is) c.in_ok-thing.ensures.ok
    ∙ c.loop-suffix.invariant

pub select-returns-clause-ok : goal.select-returns-clause-ok
select-returns-clause-ok t c =
    let ar = around_in c.args.around.now in
    let th = given thing_in c.args.thing in
    let inner = c.in_index-inner.ensures th c.in_ok-dollar.ensures.ok in
    let i = c.in_ok-i.ensures.ok (expressions.expr (around_in c.in_index-inner.result) (expr c.args.index.now)) c.expr.ensures in
    ok_mapped c.select_step.result
    (λ x. (from : Checked Thing) → c.fault_of-fault.result ≡ fault_of from
    → given thing_in x ≡ select_step ar c.args.at c.place_of.result from c.in_ok-value.value c.in_ok-i.i)
    (λ x. given thing_in x ≡ selected_by ar c.args.place th c.args.at (expr c.args.index.now))
    (λ x h. h th c.fault_of-fault.ensures
    ∙ select_made ar (around_in c.in_index-inner.result) c.args.place c.args.at c.place_of.result th (expr c.args.index.now) c.in_ok-value.value c.in_ok-i.i
    c.place_of.ensures c.in_ok-value.ensures.ok inner i)
    c.select_step.ensures.ok

pub step-returns-in-Call-clause-ok : goal.step-returns-in-Call-clause-ok
step-returns-in-Call-clause-ok t c =
    let ar = around_in c.args.around.now in
    let th = given thing_in c.args.thing in
    let whole : (rest : tree.Suffixes) → suffix c.args.suffix.now rest ≡ tree.Call c.in-Call.field-0 (expr_list c.deref.result.now) rest = λ rest. search (rules, suffix_lemmas, exprs_are) in
    ok_mapped c.call.result (λ x. given thing_in x ≡ called_with ar c.args.place th (expr_list c.deref.result.now))
    (λ x. (rest : tree.Suffixes) → given thing_in x ≡ stepped ar c.args.place th (suffix c.args.suffix.now rest))
    (λ x h rest. h ∙ sym (ap (stepped ar c.args.place th) (whole rest)))
    c.call.ensures.ok

pub target_in-returns-in_ok-target-in-Post-clause-ok : goal.target_in-returns-in_ok-target-in-Post-clause-ok
target_in-returns-in_ok-target-in-Post-clause-ok t c =
    let whole : expr c.args.e.now ≡ tree.Post c.in-Post.root (suffix_list c.deref.result.now) = search (rules, the_lemmas, suffixes_are) in
    ap Some c.in_ok-target-in-Post.ensures.ok ∙ sym (ap (target_in c.args.how (around_in c.args.around.now)) whole)

pub target_in-returns-in_ok-parts-in-Join-clause-ok : goal.target_in-returns-in_ok-parts-in-Join-clause-ok
target_in-returns-in_ok-parts-in-Join-clause-ok t c =
    let whole : expr c.args.e.now ≡ tree.Join c.in-Join.at (expr_list c.deref-in-Join.result.now) = search (rules, the_lemmas, exprs_are) in
    let made : as_concatenation c.in-Join.at (all_spots c.in_ok-parts-in-Join.parts.items) ≡ target_in c.args.how (around_in c.args.around.now) (expr c.args.e.now) =
    ap (λ ps. as_concatenation c.in-Join.at (all_spots ps)) c.in_ok-parts-in-Join.ensures.ok
    ∙ sym (ap (target_in c.args.how (around_in c.args.around.now)) whole) in
    subst (λ (z : Option (Checked (List Spot))). IfOk c.as_concatenation.result (λ x. x ≡ z)) made c.as_concatenation.ensures.ok

pub target_followed-loop-suffix-preserved : goal.target_followed-loop-suffix-preserved
target_followed-loop-suffix-preserved t c =
    let ar = around_in c.args.around.now in
    let pe = c.place_of_root-place.result in
    let ss = c.args.suffixes.now in
    let i = c.loop-suffix.suffix-index in
    let s = c.suffix-item.result in
    let th = given thing_in c.loop-suffix.thing in
    let next = given thing_in c.in_ok-thing-2.thing in
    let within = c.loop-suffix-test.true in
    let is = sym c.suffix-item.is in
    let left = left_after ss i s c.loop-suffix.left within is c.loop-suffix.invariant.0 in
    let made = c.in_ok-made.ensures.ok (suffix_list (drop (i + 1) ss)) (ap (λ n. n == 0) left ∙ sym (end_of_list (drop (i + 1) ss))) in
    let behind = thing_after ar pe th next ss i s within is c.in_ok-thing-2.ensures.ok ∙ c.loop-suffix.invariant.1 in
    let before = ap (λ b. or_else b (before_select ar pe next (suffix_list (drop (i + 1) ss)))) c.kept-before.ensures
    ∙ before_after ar pe th next ss i s c.loop-suffix.before c.in_ok-made.made within is c.in_ok-thing-2.ensures.ok made
    ∙ c.loop-suffix.invariant.2 in
    (left, behind, before)
