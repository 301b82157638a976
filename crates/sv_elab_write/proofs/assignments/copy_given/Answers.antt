use Rattle.std.proofs.Common.{◌∙◌, option_map, ap}
use Rattle.sv_tree.specs.declared.expr.Root.TheVariants as root
use Rattle.sv_tree.specs.Expr as tree
use Rattle.sv_tree.specs.Stmt as tree_stmt
use Rattle.sv_tree.specs.StmtView as view
use Rattle.sv_names.specs.Checked.{given}
use Rattle.sv_names.specs.Expressions as expressions
use Rattle.sv_names.specs.Named.{Around}
use Rattle.sv_names.specs.Views.{around_in}
use Rattle.sv_elab_assign.specs.Amounts.{amount_if}
use Rattle.sv_elab_write.proofs.AssignLaws.{assignment_given}
use Rattle.sv_elab_write.proofs.assignments.copy_given.Goals as goal

pub returns : goal.returns
returns c =
    let n = c.args.name.now in
    let there = c.in_ok-given.ensures.ok ∙ ap (λ (i : Around). expressions.expr i (tree.Post (root.Plain n) tree.NoSuffix)) c.value_around.ensures in
    assignment_given (around_in c.args.around.now) (around_in c.behind_target.result) c.args.spots
    (option_map view.delay c.args.delay.now) (tree_stmt.Copy c.args.at n) (given amount_if c.in_ok-amount.amount)
    c.assign_copy.result c.behind_target.ensures c.in_ok-amount.ensures.ok (c.assign_copy.ensures n there)
