use Rattle.std.proofs.Common.{List, ◌∷◌, ◌∙◌, map, length, sym, ap, subst}
use Rattle.std.specs.List.{between}
use Rattle.std.proofs.lemmas.Slice.{first_rest}
use Rattle.sv_tree.specs.declared.word.Name.{Name}
use Rattle.sv_tree.specs.UnitView.{sided}
use Rattle.sv_names.specs.declared.checked.Checked.{Checked}
use Rattle.sv_names.specs.Clockings.{MadeSignal, signal_named}
use Rattle.sv_names.specs.Views.{around_in}
use Rattle.sv_elab_clocking.specs.Making.{AddsSignals}
use Rattle.sv_elab_clocking.specs.Signals.{one_in_list, signals_named}
use Rattle.sv_elab_clocking.specs.Skews.{skews_in}
use Rattle.sv_elab_clocking.proofs.SignalLaws.{first_of_each}
use Rattle.sv_elab_clocking.proofs.signals.+add_signals.Goals as goal

pub returns-in-len1-up : goal.returns-in-len1-up
returns-in-len1-up t c =
    let ar = around_in c.args.around.now in
    let p = c.args.block.now in
    let k = skews_in c.args.skews in
    let ds = map sided c.args.sides.now in
    let one = c.one-item.result in
    let rest = between 1 (length c.args.names.now) c.args.names.now in
    let all = first_rest c.args.names.now one c.in-len1-up.len_at_least ∙ ap (λ n. n ∷ rest) (sym c.one-item.is) in
    subst (λ (z : Checked (List MadeSignal)). AddsSignals c.args.before.now c.add_signals-behind.new.before c.args.list.now c.add_signals-behind.new.list c.both_lists.result z)
    (first_of_each ar p k ds one rest ∙ ap (λ (ns : List Name). signals_named ar p k ds ns) (sym all))
    (c.both_lists.ensures c.args.before.now c.add_signal-made.new.before c.add_signals-behind.new.before
    c.args.list.now c.add_signal-made.new.list c.add_signals-behind.new.list
    (one_in_list (signal_named ar p k ds one)) (signals_named ar p k ds rest) c.add_signal-made.ensures c.add_signals-behind.ensures)
