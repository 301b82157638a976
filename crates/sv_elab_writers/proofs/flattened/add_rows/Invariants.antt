use Rattle.std.proofs.Common.{◌≡◌, ◌++◌, map, length}
use Rattle.sv_elab_writers.specs.Views.{routine_in, row_in}
use Rattle.sv_elab_writers.proofs.flattened.add_rows.Given as goal

abbrev pub invariant-loop-left : goal.invariant-loop-left
invariant-loop-left l =
    map row_in l.rows ++ map routine_in l.left ≡ map row_in l.initial.rows ++ map routine_in l.table

abbrev pub decreases-loop-left : goal.decreases-loop-left
decreases-loop-left l = length l.left
