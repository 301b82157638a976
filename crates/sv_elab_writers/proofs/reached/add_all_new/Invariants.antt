use Rattle.std.proofs.Common.{◌≡◌}
use Rattle.std.specs.Vec.Iter.{into_iter_items, into_iter_len}
use Rattle.sv_names.specs.Writers.{with_new}
use Rattle.sv_elab_writers.proofs.reached.add_all_new.Given as goal

abbrev pub invariant-loop-path : goal.invariant-loop-path
invariant-loop-path l =
    with_new l.paths (into_iter_items l.left) ≡ with_new l.initial.paths (into_iter_items l.initial.left)

abbrev pub decreases-loop-path : goal.decreases-loop-path
decreases-loop-path l = into_iter_len l.left
