use Rattle.std.proofs.Common.{◌∙◌, ap, sym, subst}
use Rattle.sv_tree.specs.declared.statement.BlockingAssignment.{BlockingAssignment}
use Rattle.sv_tree.specs.declared.statement.NonblockingAssignment.{NonblockingAssignment}
use Rattle.sv_tree.specs.declared.statement.OperatorAssignment.{OperatorAssignment}
use Rattle.sv_tree.specs.Stmt as tree
use Rattle.sv_tree.specs.StmtView as view
use Rattle.sv_names.specs.Emits.{Emits}
use Rattle.sv_names.specs.Statements as statements
use Rattle.sv_names.specs.Views.{around_in}
use Rattle.sv_elab_stmt.proofs.single.form_statement.Goals as goal

pub returns-in-Blocking : goal.returns-in-Blocking
returns-in-Blocking c rs os =
    let at_body : tree.Body → Type 0 = λ b. Emits rs rs os os c.guarded_code.result (statements.body (around_in c.args.around.now) c.args.s.now.at c.args.s.now.label b) in
    let of : BlockingAssignment → tree.Body = λ a. tree.Blocking (view.blocking a) in
    subst at_body (sym (ap view.body c.in-Blocking.is ∙ ap of (sym c.deref-a.ensures)))
    (c.guarded_code.ensures rs rs os os _ _ (c.single.ensures rs os _ c.assigned-form.ensures) c.timed.ensures)

pub returns-in-Nonblocking : goal.returns-in-Nonblocking
returns-in-Nonblocking c rs os =
    let at_body : tree.Body → Type 0 = λ b. Emits rs rs os os c.single-in-Nonblocking.result (statements.body (around_in c.args.around.now) c.args.s.now.at c.args.s.now.label b) in
    let of : NonblockingAssignment → tree.Body = λ a. tree.Nonblocking (view.nonblocking a) in
    subst at_body (sym (ap view.body c.in-Nonblocking.is ∙ ap of (sym c.deref.ensures))) (c.single-in-Nonblocking.ensures rs os _ c.later.ensures)

pub returns-in-Operator : goal.returns-in-Operator
returns-in-Operator c rs os =
    let at_body : tree.Body → Type 0 = λ b. Emits rs rs os os c.single-in-Operator.result (statements.body (around_in c.args.around.now) c.args.s.now.at c.args.s.now.label b) in
    let of : OperatorAssignment → tree.Body = λ a. tree.Body.Operator (view.operator a) in
    subst at_body (sym (ap view.body c.in-Operator.is ∙ ap of (sym c.deref-in-Operator.ensures))) (c.single-in-Operator.ensures rs os _ c.operated.ensures)

pub returns-in-Step : goal.returns-in-Step
returns-in-Step c rs os =
    let at_body : tree.Body → Type 0 = λ b. Emits rs rs os os c.single-in-Step.result (statements.body (around_in c.args.around.now) c.args.s.now.at c.args.s.now.label b) in
    subst at_body (sym (ap view.body c.in-Step.is)) (c.single-in-Step.ensures rs os _ c.stepped.ensures)
