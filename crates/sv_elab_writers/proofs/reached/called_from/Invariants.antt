use Rattle.std.proofs.Common.{◌≡◌, ◌++◌, map, length}
use Rattle.std.specs.Prelude.{flat_map}
use Rattle.sv_elab_writers.specs.Reaching.{called_at}
use Rattle.sv_elab_writers.specs.Views.{row_in}
use Rattle.sv_elab_writers.proofs.reached.called_from.Given as goal

abbrev pub invariant-loop-left : goal.invariant-loop-left
invariant-loop-left l =
    l.paths ++ flat_map (called_at (map (λ k. k.now) l.classes) (map row_in l.table)) l.left
    ≡ l.initial.paths ++ flat_map (called_at (map (λ k. k.now) l.classes) (map row_in l.table)) l.callers

abbrev pub decreases-loop-left : goal.decreases-loop-left
decreases-loop-left l = length l.left
