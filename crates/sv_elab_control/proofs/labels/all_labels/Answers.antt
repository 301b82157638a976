use Rattle.std.proofs.Common.{sym}
use Rattle.sv_names.specs.Views.{around_in}
use Rattle.sv_elab_control.proofs.LabelLaws.{items_next}
use Rattle.sv_elab_control.proofs.labels.all_labels.Goals as goal

pub loop-item-preserved : goal.loop-item-preserved
loop-item-preserved c =
    items_next (around_in c.loop-item.place) (around_in c.behind_item-next.result) c.args.subject.now c.args.items.now c.loop-item.item-index
    c.item-item.result c.in_ok-list.list c.loop-item.done c.in_ok-done.done _ c.loop-item-test.true (sym c.item-item.is) c.in_ok-list.ensures.ok
    c.behind_item-next.ensures c.in_ok-done.ensures.ok c.loop-item.invariant
