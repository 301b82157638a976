use Rattle.std.proofs.Common.{◌≡◌, ◌++◌}
use Rattle.std.specs.Vec.Iter.{into_iter_items, into_iter_len}
use Rattle.sv_elab_comb.specs.Combs.{all_watching}
use Rattle.sv_elab_comb.proofs.processes.all_watching.Given as goal

abbrev pub invariant-loop-process : goal.invariant-loop-process
invariant-loop-process l =
    l.renewed ++ all_watching (into_iter_items l.left) (into_iter_items l.told)
    ≡ all_watching (into_iter_items l.initial.left) (into_iter_items l.initial.told)

abbrev pub decreases-loop-process : goal.decreases-loop-process
decreases-loop-process l = into_iter_len l.left
