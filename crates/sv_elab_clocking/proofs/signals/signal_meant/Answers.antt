use Rattle.std.proofs.Common.{map}
use Rattle.sv_tree.specs.UnitView.{sided}
use Rattle.sv_names.specs.Views.{around_in, meaning_in}
use Rattle.sv_elab_clocking.specs.Skews.{skews_in}
use Rattle.sv_elab_clocking.proofs.SignalLaws.{signal_stands}
use Rattle.sv_elab_clocking.proofs.signals.signal_meant.Goals as goal

pub returns-in_ok-driver-in-Ok : goal.returns-in_ok-driver-in-Ok
returns-in_ok-driver-in-Ok c =
    let x = meaning_in c.args.meaning in
    signal_stands (around_in c.args.around.now) c.args.block.now (skews_in c.args.skews) (map sided c.args.sides.now) c.args.name.now x
    c.in-Ok.info c.args.before.now c.driven.new.before _ c.in_ok-driver-in-Ok.driver c.signal_over.result
    c.in-Ok.ensures c.net_driven.ensures c.in_ok-driver-in-Ok.ensures.number c.in_ok-driver-in-Ok.ensures.drives (c.signal_over.ensures x)
