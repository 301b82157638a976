use Rattle.std.proofs.Common.{◌≡◌, ◌++◌, map, length}
use Rattle.std.specs.Prelude.{flat_map}
use Rattle.sv_elab_comb.specs.Standing.{run_by}
use Rattle.sv_elab_comb.proofs.calls.add_all_run.Given as goal

abbrev pub invariant-loop-left : goal.invariant-loop-left
invariant-loop-left l =
    l.ids ++ flat_map (run_by l.parts) (map (λ s. s.now) l.left)
    ≡ l.initial.ids ++ flat_map (run_by l.parts) (map (λ s. s.now) l.statements)

abbrev pub decreases-loop-left : goal.decreases-loop-left
decreases-loop-left l = length l.left
