use Rattle.std.proofs.Common.{◌≡◌, map, length}
use Rattle.sv_names.specs.Writers.{reached_within}
use Rattle.sv_elab_writers.specs.Views.{row_in}
use Rattle.sv_elab_writers.proofs.reached.reached_from.Given as goal

abbrev pub invariant-loop-left : goal.invariant-loop-left
invariant-loop-left l =
    reached_within l.left (map (λ k. k.now) l.classes) (map row_in l.table) l.paths
    ≡ reached_within (length l.table) (map (λ k. k.now) l.classes) (map row_in l.table) l.initial.paths

abbrev pub decreases-loop-left : goal.decreases-loop-left
decreases-loop-left l = l.left
