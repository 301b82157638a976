use Rattle.std.proofs.Common.{◌≡◌, ◌++◌}
use Rattle.std.specs.Vec.Iter.{into_iter_items, into_iter_len}
use Rattle.sv_elab_scope.specs.Starting.{without_announcements}
use Rattle.sv_elab_scope.proofs.beginning.without_announcements.Given as goal

abbrev pub invariant-loop-entry : goal.invariant-loop-entry
invariant-loop-entry l = l.kept ++ without_announcements (into_iter_items l.left) ≡ without_announcements (into_iter_items l.initial.left)

abbrev pub decreases-loop-entry : goal.decreases-loop-entry
decreases-loop-entry l = into_iter_len l.left
