use Rattle.std.proofs.Common.{◌≡◌, ◌+◌, arith, rules, ap, sym, ◌∙◌}
use Rattle.sv_flat.specs.Expr.{expr_size}
use Rattle.sv_flat.specs.ExprView.{of_form}
use Rattle.sv_eval.proofs.evaluate.+evaluate.Goals as goal

pub value_in-unary_value-requires : goal.value_in-unary_value-requires
value_in-unary_value-requires g t c κs within =
    let is = sym c.expr.view_is ∙ ap of_form (sym c.deref.ensures ∙ c.in-Unary.is) in
    let size : expr_size c.args.expr.now ≡ expr_size c.in-Unary.operand + 1 = ap expr_size is in
    (omega (arith, c.decreases, size), search rules)

pub value_in-binary_value-requires : goal.value_in-binary_value-requires
value_in-binary_value-requires g t c κs within =
    let is = sym c.expr.view_is ∙ ap of_form (sym c.deref.ensures ∙ c.in-Binary.is) in
    let size : expr_size c.args.expr.now ≡ expr_size c.in-Binary.left + expr_size c.in-Binary.right + 1 = ap expr_size is in
    (omega (arith, c.decreases, size), search rules)

pub value_apart-chosen-requires : goal.value_apart-chosen-requires
value_apart-chosen-requires g t c κs within =
    let is = sym c.expr.view_is ∙ ap of_form (sym c.deref.ensures ∙ c.in-Choose.is) in
    let size : expr_size c.args.expr.now ≡ expr_size c.in-Choose.condition + expr_size c.in-Choose.yes + expr_size c.in-Choose.no + 1 = ap expr_size is in
    (omega (arith, c.decreases, size), search rules)
