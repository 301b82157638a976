use Rattle.std.proofs.Common.{rules, ◌≡◌, ◌∙◌, false, sym, subst}
use Rattle.std.specs.Prelude.{OnOk}
use Rattle.sv_flat.specs.Expr.{Expr, LocalElement}
use Rattle.sv_names.specs.Watched.{operands, is_literal}
use Rattle.sv_elab_watch.specs.Reading.{Added}
use Rattle.sv_elab_watch.proofs.ReadLaws.{array_read, ok_given}
use Rattle.sv_elab_watch.proofs.operands.+add_expr.Goals as goal

pub returns-in_ok-add_array_outside-in-LocalElement : goal.returns-in_ok-add_array_outside-in-LocalElement
returns-in_ok-add_array_outside-in-LocalElement t c =
    let a = c.in-LocalElement in
    let d = c.args.depth in
    let r = c.add_expr-in-LocalElement in
    let whole : LocalElement a.up a.place a.bounds a.ty a.index ≡ c.args.e.now = search rules in
    let some : is_literal a.index ≡ false = sym c.is_literal-in-LocalElement.ensures ∙ c.if-is_literal-2.false in
    subst (λ (e : Expr). OnOk r.result (Added c.args.list.now r.new.list (operands d e))) whole
    (ok_given r.result (Added c.add_array_outside.new.list r.new.list (operands d a.index))
    (Added c.args.list.now r.new.list (operands d (LocalElement a.up a.place a.bounds a.ty a.index)))
    (λ added. array_read d a.up a.place a.bounds a.ty a.index c.args.list.now c.add_array_outside.new.list r.new.list some
    c.in_ok-add_array_outside-in-LocalElement.ensures added)
    r.ensures)
