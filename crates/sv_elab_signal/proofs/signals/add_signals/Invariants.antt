use Rattle.std.proofs.Common.{◌≡◌, ◌++◌, map, length}
use Rattle.sv_tree.specs.UnitView.{sided}
use Rattle.sv_names.specs.Views.{around_in}
use Rattle.sv_elab_signal.specs.Signals.{signals_called}
use Rattle.sv_elab_signal.proofs.signals.add_signals.Given as goal

abbrev pub invariant-loop-left : goal.invariant-loop-left
invariant-loop-left l =
    l.list ++ signals_called (around_in l.around) l.block (map sided l.sides) l.left
    ≡ l.initial.list ++ signals_called (around_in l.around) l.block (map sided l.sides) l.names

abbrev pub decreases-loop-left : goal.decreases-loop-left
decreases-loop-left l = length l.left
