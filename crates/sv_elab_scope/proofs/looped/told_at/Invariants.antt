use Rattle.std.proofs.Common.{◌≡◌, ◌++◌}
use Rattle.std.specs.Vec.Iter.{into_iter_items, into_iter_len}
use Rattle.sv_elab_scope.specs.Ending.{told_at}
use Rattle.sv_elab_scope.proofs.looped.told_at.Given as goal

abbrev pub invariant-loop-value : goal.invariant-loop-value
invariant-loop-value l = l.told ++ told_at l.left (into_iter_items l.values) ≡ told_at l.initial.left (into_iter_items l.initial.values)

abbrev pub decreases-loop-value : goal.decreases-loop-value
decreases-loop-value l = into_iter_len l.values
