use Rattle.std.proofs.Common.{◌+◌, ◌*◌}
use Rattle.sv_flat.specs.Expr.{expr_size}
use Rattle.sv_eval.proofs.evaluate.+evaluate.Given as goal

abbrev pub decreases-value : goal.decreases-value
decreases-value g l = 4 * expr_size l.expr.now + 2

abbrev pub decreases-value_in : goal.decreases-value_in
decreases-value_in g l = 4 * expr_size l.expr.now + 1

abbrev pub decreases-value_apart : goal.decreases-value_apart
decreases-value_apart g l = 4 * expr_size l.expr.now

abbrev pub decreases-unary_value : goal.decreases-unary_value
decreases-unary_value g l = 4 * expr_size l.operand.now + 3

abbrev pub decreases-binary_value : goal.decreases-binary_value
decreases-binary_value g l = 4 * (expr_size l.left.now + expr_size l.right.now) + 3

abbrev pub decreases-comparison : goal.decreases-comparison
decreases-comparison g l = 4 * (expr_size l.left.now + expr_size l.right.now) + 2

abbrev pub decreases-chosen : goal.decreases-chosen
decreases-chosen g l = 4 * (expr_size l.yes.now + expr_size l.no.now) + 3

abbrev pub decreases-both_branches : goal.decreases-both_branches
decreases-both_branches g l = 4 * (expr_size l.yes.now + expr_size l.no.now) + 2
