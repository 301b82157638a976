use Rattle.std.proofs.Common.{List, map, Ok, ap, ◌∙◌, subst}
use Rattle.sv_flat.specs.declared.clocking.Signal.{Signal}
use Rattle.sv_tree.specs.declared.clocking.ClockingItem.{ClockingItem}
use Rattle.sv_tree.specs.UnitView.{clocking, clocking_item}
use Rattle.sv_names.specs.Clockings.{event_of}
use Rattle.sv_names.specs.Given.{Fails}
use Rattle.sv_names.specs.Types.{Path}
use Rattle.sv_names.specs.Views.{around_in}
use Rattle.sv_elab_clocking.specs.Blocks.{signals_usual, names_stand, block_over}
use Rattle.sv_elab_clocking.specs.Making.{AddsSignals}
use Rattle.sv_elab_clocking.proofs.BlockLaws.{block_stands, names_refuse, signals_refuse}
use Rattle.sv_elab_clocking.proofs.blocks.clocking_of.Goals as goal

pub returns-in_ok-made-in-Ok-where_also : goal.returns-in_ok-made-in-Ok-where_also
returns-in_ok-made-in-Ok-where_also c =
    let ar = around_in c.args.around.now in
    let p = c.args.path.now in
    let b = clocking c.args.block.now in
    let o = c.args.before.now in
    let o' = c.add_signals.new.before in
    let ss = c.add_signals.new.list in
    let there = subst (λ (is : List ClockingItem). AddsSignals o o' c.new-signals.result ss (Ok tt) (signals_usual ar p (map clocking_item is)))
    c.as_slice-items.ensures.value c.in-Ok.ensures in
    let made = subst (λ (xs : List Signal). AddsSignals o o' xs ss (Ok tt) (signals_usual ar p b.items)) c.new-signals.ensures there in
    block_stands ar p b c.in-Ok-where_also.event o o' c.args.objects.now c.block_over.new.objects ss c.in_ok-made-in-Ok-where_also.made
    (c.in-Ok-where_also.ensures (event_of ar b.event) (names_stand b) c.event_of-event.ensures c.names_stand-names.ensures) made
    (c.in_ok-made-in-Ok-where_also.ensures.value ∙ ap (λ (q : Path). block_over ar b q ss) c.as_slice-event.ensures)
    c.in_ok-made-in-Ok-where_also.ensures.samples

pub returns-in-Err-where_also : goal.returns-in-Err-where_also
returns-in-Err-where_also c =
    let ar = around_in c.args.around.now in
    let p = c.args.path.now in
    let b = clocking c.args.block.now in
    let o = c.args.before.now in
    let o' = c.add_signals.new.before in
    let ss = c.add_signals.new.list in
    let made = subst (λ (is : List ClockingItem). AddsSignals o o' c.new-signals.result ss (Ok tt) (signals_usual ar p (map clocking_item is)))
    c.as_slice-items.ensures.value c.in-Ok.ensures in
    names_refuse ar p b o o' c.new-signals.result ss c.in-Err-where_also.e
    (c.in-Err-where_also.ensures (event_of ar b.event) (names_stand b) c.event_of-event.ensures c.names_stand-names.ensures) made

pub returns-in-Err : goal.returns-in-Err
returns-in-Err c =
    let ar = around_in c.args.around.now in
    let p = c.args.path.now in
    let b = clocking c.args.block.now in
    let fails = subst (λ (is : List ClockingItem). Fails c.in-Err.e (signals_usual ar p (map clocking_item is))) c.as_slice-items.ensures.value c.in-Err.ensures in
    signals_refuse ar p b c.refused.result
    (c.refused.ensures (event_of ar b.event) (signals_usual ar p b.items) (names_stand b) c.event_of-event.ensures fails c.names_stand-names.ensures)
