use Rattle.std.proofs.Common.{◌≡◌, ◌++◌, length}
use Rattle.sv_elab_writers.specs.Tables.{paths_of}
use Rattle.sv_elab_writers.proofs.table.paths_of.Given as goal

abbrev pub invariant-loop-left : goal.invariant-loop-left
invariant-loop-left l = l.paths ++ paths_of l.left ≡ paths_of l.rows

abbrev pub decreases-loop-left : goal.decreases-loop-left
decreases-loop-left l = length l.left
