use Rattle.std.proofs.Common.{◌≡◌, ◌++◌, length}
use Rattle.std.specs.Prelude.{flat_map}
use Rattle.sv_flat.specs.Names.{argument_exprs}
use Rattle.sv_names.specs.Watched.{operands}
use Rattle.sv_elab_watch.proofs.calls.add_arguments.Given as goal

abbrev pub invariant-loop-left : goal.invariant-loop-left
invariant-loop-left l = l.list ++ flat_map (operands l.depth) (flat_map argument_exprs l.left) ≡ l.initial.list ++ flat_map (operands l.depth) (flat_map argument_exprs l.arguments)

abbrev pub decreases-loop-left : goal.decreases-loop-left
decreases-loop-left l = length l.left
