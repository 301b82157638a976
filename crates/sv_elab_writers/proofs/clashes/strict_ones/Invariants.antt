use Rattle.std.proofs.Common.{◌≡◌, ◌++◌, map, length}
use Rattle.std.specs.Prelude.{flat_map}
use Rattle.sv_elab_writers.specs.Laws.{strict_of}
use Rattle.sv_elab_writers.specs.Views.{write_in}
use Rattle.sv_elab_writers.proofs.clashes.strict_ones.Given as goal

abbrev pub invariant-loop-left : goal.invariant-loop-left
invariant-loop-left l =
    map write_in l.strict ++ flat_map (strict_of l.law) (map write_in l.left) ≡ flat_map (strict_of l.law) (map write_in l.writes)

abbrev pub decreases-loop-left : goal.decreases-loop-left
decreases-loop-left l = length l.left
