use Rattle.std.proofs.Common.{map}
use Rattle.sv_tree.specs.UnitView.{sided}
use Rattle.sv_names.specs.Clockings.{signal_named}
use Rattle.sv_names.specs.Views.{around_in}
use Rattle.sv_elab_clocking.specs.Skews.{skews_in}
use Rattle.sv_elab_clocking.proofs.SignalLaws.{one_added}
use Rattle.sv_elab_clocking.proofs.signals.add_signal.Goals as goal

pub returns-in_ok-push-in-Ok : goal.returns-in_ok-push-in-Ok
returns-in_ok-push-in-Ok c =
    one_added c.args.before.now c.signal_named.new.before c.args.list.now c.push.new.self c.in-Ok.signal
    (signal_named (around_in c.args.around.now) c.args.block.now (skews_in c.args.skews) (map sided c.args.sides.now) c.args.name.now)
    c.in-Ok.ensures c.in_ok-push-in-Ok.ensures.ok
