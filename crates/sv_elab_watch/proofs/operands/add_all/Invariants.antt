use Rattle.std.proofs.Common.{◌≡◌, ◌++◌, length}
use Rattle.std.specs.Prelude.{flat_map}
use Rattle.sv_names.specs.Watched.{operands}
use Rattle.sv_elab_watch.proofs.operands.add_all.Given as goal

abbrev pub invariant-loop-left : goal.invariant-loop-left
invariant-loop-left l = l.list ++ flat_map (operands l.depth) l.left ≡ l.initial.list ++ flat_map (operands l.depth) l.items

abbrev pub decreases-loop-left : goal.decreases-loop-left
decreases-loop-left l = length l.left
