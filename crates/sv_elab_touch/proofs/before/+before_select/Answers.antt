use Rattle.std.proofs.Common.{◌≡◌, ◌∙◌, ◌∷◌, length, sym, ap, subst}
use Rattle.std.specs.Prelude.{IfOk, Option}
use Rattle.std.specs.List.{between}
use Rattle.std.proofs.lemmas.Slice.{first_rest}
use Rattle.sv_tree.specs.View.{suffix_list}
use Rattle.sv_names.specs.declared.typed.Typed.{Typed}
use Rattle.sv_names.specs.Checked.{given}
use Rattle.sv_names.specs.Expressions.{before_select}
use Rattle.sv_names.specs.Views.{around_in}
use Rattle.sv_elab_name.specs.Things.{thing_in}
use Rattle.sv_elab_touch.proofs.StepLaws.{end_of_list, before_stopped, before_behind}
use Rattle.sv_elab_touch.proofs.before.+before_select.Goals as goal

pub returns-then-stops : goal.returns-then-stops
returns-then-stops t c =
    let ar = around_in c.args.around.now in
    let ss = c.args.suffixes.now in
    let s = c.suffix-item.result in
    let rest = between 1 (length ss) ss in
    let all = first_rest ss s c.in-len1-up.len_at_least ∙ ap (λ x. x ∷ rest) (sym c.suffix-item.is) in
    let th = given thing_in c.args.thing in
    let next = given thing_in c.in_ok-next-in-len1-up.next in
    let is = c.in_ok-before-in-len1-up.ensures (suffix_list rest) (c.is_empty.ensures ∙ sym (end_of_list rest)) in
    let made = c.in_ok-next-in-len1-up.ensures (suffix_list rest) in
    let pe = c.args.place in
    before_stopped ar pe th s (suffix_list rest) c.in_ok-before-in-len1-up.before next is made (sym c.stops.ensures ∙ c.if-stops.true)
    ∙ ap (λ xs. before_select ar pe th (suffix_list xs)) (sym all)

pub returns-else-stops : goal.returns-else-stops
returns-else-stops t c =
    let ar = around_in c.args.around.now in
    let ss = c.args.suffixes.now in
    let s = c.suffix-item.result in
    let rest = between 1 (length ss) ss in
    let all = first_rest ss s c.in-len1-up.len_at_least ∙ ap (λ x. x ∷ rest) (sym c.suffix-item.is) in
    let th = given thing_in c.args.thing in
    let next = given thing_in c.in_ok-next-in-len1-up.next in
    let is = c.in_ok-before-in-len1-up.ensures (suffix_list rest) (c.is_empty.ensures ∙ sym (end_of_list rest)) in
    let made = c.in_ok-next-in-len1-up.ensures (suffix_list rest) in
    let pe = c.args.place in
    let whole = before_behind ar pe th s (suffix_list rest) c.in_ok-before-in-len1-up.before next is made (sym c.stops.ensures ∙ c.if-stops.false)
    ∙ ap (λ xs. before_select ar pe th (suffix_list xs)) (sym all) in
    subst (λ (z : Option Typed). IfOk c.before_select.result (λ x. x ≡ z)) whole c.before_select.ensures
