use Rattle.std.proofs.Common.{◌≡◌, ◌++◌}
use Rattle.std.specs.Vec.Iter.{into_iter_items, into_iter_len}
use Rattle.sv_elab_scope.specs.Ending.{told_in}
use Rattle.sv_elab_scope.proofs.looped.told_in.Given as goal

abbrev pub invariant-loop-list : goal.invariant-loop-list
invariant-loop-list l = l.told ++ told_in l.left (into_iter_items l.values) ≡ told_in l.initial.left (into_iter_items l.initial.values)

abbrev pub decreases-loop-list : goal.decreases-loop-list
decreases-loop-list l = into_iter_len l.values
