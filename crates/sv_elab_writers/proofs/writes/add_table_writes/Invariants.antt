use Rattle.std.proofs.Common.{◌≡◌, ◌++◌, map, length}
use Rattle.sv_names.specs.Writers.{table_writes}
use Rattle.sv_elab_writers.specs.Views.{row_in, write_in}
use Rattle.sv_elab_writers.proofs.writes.add_table_writes.Given as goal

abbrev pub invariant-loop-left : goal.invariant-loop-left
invariant-loop-left l =
    map write_in l.writes ++ table_writes (map row_in l.left)
    ≡ map write_in l.initial.writes ++ table_writes (map row_in l.table)

abbrev pub decreases-loop-left : goal.decreases-loop-left
decreases-loop-left l = length l.left
