use Rattle.std.proofs.Common.{List, ◌∷◌, ◌∙◌, map, length, sym, ap, subst}
use Rattle.std.specs.List.{between}
use Rattle.std.proofs.lemmas.Slice.{first_rest}
use Rattle.sv_tree.specs.declared.clocking.ClockingItem.{ClockingItem}
use Rattle.sv_tree.specs.UnitView.{clocking_item}
use Rattle.sv_names.specs.declared.checked.Checked.{Checked}
use Rattle.sv_names.specs.Clockings.{MadeSignal, item_signals, signals_of}
use Rattle.sv_names.specs.Views.{around_in}
use Rattle.sv_elab_clocking.specs.Making.{AddsSignals}
use Rattle.sv_elab_clocking.specs.Skews.{skews_in}
use Rattle.sv_elab_clocking.proofs.signals.+add_all.Goals as goal

pub returns-in-len1-up : goal.returns-in-len1-up
returns-in-len1-up t c =
    let ar = around_in c.args.around.now in
    let p = c.args.block.now in
    let k = skews_in c.args.skews in
    let one = c.one-item.result in
    let rest = between 1 (length c.args.items.now) c.args.items.now in
    let all = first_rest c.args.items.now one c.in-len1-up.len_at_least ∙ ap (λ i. i ∷ rest) (sym c.one-item.is) in
    subst (λ (z : Checked (List MadeSignal)). AddsSignals c.args.before.now c.add_all-behind.new.before c.args.list.now c.add_all-behind.new.list c.both_lists.result z)
    (ap (λ (is : List ClockingItem). signals_of ar p k (map clocking_item is)) (sym all))
    (c.both_lists.ensures c.args.before.now c.add_item-made.new.before c.add_all-behind.new.before
    c.args.list.now c.add_item-made.new.list c.add_all-behind.new.list
    (item_signals ar p k (clocking_item one)) (signals_of ar p k (map clocking_item rest)) c.add_item-made.ensures c.add_all-behind.ensures)
