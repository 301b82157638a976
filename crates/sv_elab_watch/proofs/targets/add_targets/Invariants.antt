use Rattle.std.proofs.Common.{◌≡◌, ◌++◌, length}
use Rattle.std.specs.Prelude.{flat_map}
use Rattle.sv_names.specs.Watched.{operands}
use Rattle.sv_elab_watch.specs.Reading.{targets_of}
use Rattle.sv_elab_watch.proofs.targets.add_targets.Given as goal

abbrev pub invariant-loop-left : goal.invariant-loop-left
invariant-loop-left l = l.list ++ flat_map (operands l.depth) (targets_of l.kind l.left) ≡ l.initial.list ++ flat_map (operands l.depth) (targets_of l.kind l.targets)

abbrev pub decreases-loop-left : goal.decreases-loop-left
decreases-loop-left l = length l.left
