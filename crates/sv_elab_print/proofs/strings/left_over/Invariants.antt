use Rattle.std.proofs.Common.{◌≡◌}
use Rattle.std.specs.Vec.Iter.{into_iter_items, into_iter_len}
use Rattle.sv_names.specs.Formats.{and_then, left_over}
use Rattle.sv_elab_print.proofs.strings.left_over.Given as goal

abbrev pub invariant-loop-a : goal.invariant-loop-a
invariant-loop-a l =
    and_then l.printed (left_over (into_iter_items l.left)) ≡ and_then l.initial.printed (left_over (into_iter_items l.initial.left))

abbrev pub decreases-loop-a : goal.decreases-loop-a
decreases-loop-a l = into_iter_len l.left
