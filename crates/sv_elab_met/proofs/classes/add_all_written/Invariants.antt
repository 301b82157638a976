use Rattle.std.proofs.Common.{◌≡◌, ◌++◌, map, length}
use Rattle.sv_tree.specs.UnitView.{class_item}
use Rattle.sv_names.specs.Views.{around_in}
use Rattle.sv_elab_writers.specs.Views.{touch_in}
use Rattle.sv_elab_met.specs.Met as words
use Rattle.sv_elab_met.proofs.classes.add_all_written.Given as goal

abbrev pub invariant-loop-left : goal.invariant-loop-left
invariant-loop-left l =
    map touch_in l.touches ++ words.all_written (around_in l.around) l.class (map class_item l.left)
    ≡ map touch_in l.initial.touches ++ words.all_written (around_in l.around) l.class (map class_item l.items)

abbrev pub decreases-loop-left : goal.decreases-loop-left
decreases-loop-left l = length l.left
