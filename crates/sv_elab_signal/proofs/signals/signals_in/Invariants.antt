use Rattle.std.proofs.Common.{◌≡◌, ◌++◌, map, length}
use Rattle.sv_tree.specs.UnitView.{clocking_item}
use Rattle.sv_names.specs.Scopes.{signals_in}
use Rattle.sv_names.specs.Views.{around_in}
use Rattle.sv_elab_signal.proofs.signals.signals_in.Given as goal

abbrev pub invariant-loop-left : goal.invariant-loop-left
invariant-loop-left l =
    l.list ++ signals_in (around_in l.around) l.block (map clocking_item l.left)
    ≡ signals_in (around_in l.around) l.block (map clocking_item l.items)

abbrev pub decreases-loop-left : goal.decreases-loop-left
decreases-loop-left l = length l.left
