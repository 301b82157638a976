use Rattle.std.proofs.Common.{◌≡◌, ◌++◌}
use Rattle.std.specs.Vec.Iter.{into_iter_items, into_iter_len}
use Rattle.sv_elab_scope.specs.Settling.{classes_with}
use Rattle.sv_elab_scope.proofs.group.classes_with.Given as goal

abbrev pub invariant-loop-class : goal.invariant-loop-class
invariant-loop-class l =
    l.renewed ++ classes_with (into_iter_items l.left) (into_iter_items l.values)
    ≡ classes_with (into_iter_items l.initial.left) (into_iter_items l.initial.values)

abbrev pub decreases-loop-class : goal.decreases-loop-class
decreases-loop-class l = into_iter_len l.left
