use Rattle.std.proofs.Common.{◌≡◌, ◌++◌, map, length}
use Rattle.std.specs.Prelude.{flat_map}
use Rattle.sv_elab_writers.specs.Processes.{process_writes}
use Rattle.sv_elab_writers.specs.Views.{row_in, source_in, write_in}
use Rattle.sv_elab_writers.proofs.standing.add_all_procedures.Given as goal

abbrev pub invariant-loop-left : goal.invariant-loop-left
invariant-loop-left l =
    map write_in l.writes ++ flat_map (process_writes (map (λ k. k.now) l.classes) (map row_in l.table)) (map source_in l.left)
    ≡ map write_in l.initial.writes ++ flat_map (process_writes (map (λ k. k.now) l.classes) (map row_in l.table)) (map source_in l.sources)

abbrev pub decreases-loop-left : goal.decreases-loop-left
decreases-loop-left l = length l.left
