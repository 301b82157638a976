use Rattle.std.proofs.Common.{◌≡◌, ◌++◌, map, length}
use Rattle.sv_names.specs.Writers.{spot_touches}
use Rattle.sv_elab_writers.specs.Views.{touch_in}
use Rattle.sv_elab_touch.proofs.written.add_spots.Given as goal

abbrev pub invariant-loop-left : goal.invariant-loop-left
invariant-loop-left l =
    map touch_in l.touches ++ spot_touches l.left ≡ map touch_in l.initial.touches ++ spot_touches l.spots

abbrev pub decreases-loop-left : goal.decreases-loop-left
decreases-loop-left l = length l.left
