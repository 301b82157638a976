use Rattle.std.proofs.Common.{◌≡◌, length}
use Rattle.std.specs.Vec.Iter.{into_iter_items}
use Rattle.sv_names.specs.Formats.{and_then, all_printed}
use Rattle.sv_elab_print.proofs.prints.all_printed.Given as goal

abbrev pub invariant-loop-a : goal.invariant-loop-a
invariant-loop-a l =
    and_then l.printed (all_printed (into_iter_items l.left))
    ≡ and_then l.initial.printed (all_printed (into_iter_items l.initial.left))

abbrev pub decreases-loop-a : goal.decreases-loop-a
decreases-loop-a l = length (into_iter_items l.left)
