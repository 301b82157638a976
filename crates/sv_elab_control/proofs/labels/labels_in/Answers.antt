use Rattle.std.proofs.Common.{sym}
use Rattle.sv_tree.specs.View.{expr}
use Rattle.sv_names.specs.Expressions as expressions
use Rattle.sv_names.specs.Views.{around_in}
use Rattle.sv_elab_control.proofs.LabelLaws.{labels_next}
use Rattle.sv_elab_control.proofs.labels.labels_in.Goals as goal

pub loop-e-preserved : goal.loop-e-preserved
loop-e-preserved c =
    let ar = around_in c.loop-e.place in
    labels_next ar (around_in c.behind_value-next.result) c.args.subject.now c.args.list.now c.loop-e.e-index c.e-item.result c.place_of.result
    c.in_ok-value.value c.in_ok-label.label c.loop-e.done c.in_ok-done.done _ c.loop-e-test.true (sym c.e-item.is) c.place_of.ensures
    (c.in_ok-value.ensures.ok (expressions.expr ar (expr c.e-item.result)) c.expr.ensures) c.behind_value-next.ensures c.in_ok-label.ensures.ok
    c.in_ok-done.ensures.ok c.loop-e.invariant
