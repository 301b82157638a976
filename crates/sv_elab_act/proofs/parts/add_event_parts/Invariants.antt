use Rattle.std.proofs.Common.{◌≡◌, ◌++◌, map, length}
use Rattle.sv_names.specs.Views.{around_in}
use Rattle.sv_elab_writers.specs.Views.{touch_in}
use Rattle.sv_elab_act.specs.Acts.{event_parts_touches}
use Rattle.sv_elab_act.proofs.parts.add_event_parts.Given as goal

abbrev pub invariant-loop-left : goal.invariant-loop-left
invariant-loop-left l =
    map touch_in l.touches ++ event_parts_touches (around_in l.around) l.left
    ≡ map touch_in l.initial.touches ++ event_parts_touches (around_in l.around) l.parts

abbrev pub decreases-loop-left : goal.decreases-loop-left
decreases-loop-left l = length l.left
