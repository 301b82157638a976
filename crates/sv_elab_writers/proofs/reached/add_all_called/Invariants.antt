use Rattle.std.proofs.Common.{◌≡◌, ◌++◌, map, length}
use Rattle.std.specs.Prelude.{flat_map}
use Rattle.sv_names.specs.Writers.{called_by}
use Rattle.sv_elab_writers.specs.Views.{touch_in}
use Rattle.sv_elab_writers.proofs.reached.add_all_called.Given as goal

abbrev pub invariant-loop-left : goal.invariant-loop-left
invariant-loop-left l =
    l.paths ++ flat_map (called_by (map (λ k. k.now) l.classes)) (map touch_in l.left)
    ≡ l.initial.paths ++ flat_map (called_by (map (λ k. k.now) l.classes)) (map touch_in l.touches)

abbrev pub decreases-loop-left : goal.decreases-loop-left
decreases-loop-left l = length l.left
