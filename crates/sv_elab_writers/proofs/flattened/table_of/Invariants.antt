use Rattle.std.proofs.Common.{◌≡◌, ◌++◌, map, length}
use Rattle.std.specs.Prelude.{flat_map}
use Rattle.sv_elab_writers.specs.Views.{met_in, row_in}
use Rattle.sv_elab_writers.proofs.flattened.table_of.Given as goal

abbrev pub invariant-loop-left : goal.invariant-loop-left
invariant-loop-left l =
    map row_in l.rows ++ flat_map (λ m. m.table) (map met_in l.left)
    ≡ map row_in l.initial.rows ++ flat_map (λ m. m.table) (map met_in l.mets)

abbrev pub decreases-loop-left : goal.decreases-loop-left
decreases-loop-left l = length l.left
