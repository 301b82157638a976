use Rattle.std.proofs.Common.{List, map, sym, subst}
use Rattle.sv_tree.specs.UnitView.{sided}
use Rattle.sv_names.specs.declared.checked.Checked.{Checked}
use Rattle.sv_names.specs.Clockings.{MadeSignal}
use Rattle.sv_names.specs.Views.{around_in}
use Rattle.sv_elab_clocking.specs.Making.{AddsSignals}
use Rattle.sv_elab_clocking.specs.Skews.{skews_in}
use Rattle.sv_elab_clocking.proofs.SignalLaws.{item_good}
use Rattle.sv_elab_clocking.proofs.signals.add_named.Goals as goal

pub returns-in-Ok : goal.returns-in-Ok
returns-in-Ok c =
    subst (λ (z : Checked (List MadeSignal)). AddsSignals c.args.before.now c.add_signals.new.before c.args.list.now c.add_signals.new.list c.add_signals.result z)
    (sym (item_good (around_in c.args.around.now) c.args.block.now (skews_in c.args.skews) (map sided c.args.sides.now) c.args.names.now
    (skews_in c.in-Ok.own) c.in-Ok.ensures))
    c.add_signals.ensures
