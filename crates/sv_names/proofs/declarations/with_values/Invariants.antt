use Rattle.std.proofs.Common.{◌≡◌, ◌++◌}
use Rattle.std.specs.Vec.Iter.{into_iter_items, into_iter_len}
use Rattle.sv_names.specs.Index.{with_values}
use Rattle.sv_names.proofs.declarations.with_values.Given as goal

abbrev pub invariant-loop-first : goal.invariant-loop-first
invariant-loop-first l =
    l.renewed ++ with_values (into_iter_items l.left) (into_iter_items l.values)
    ≡ with_values (into_iter_items l.initial.left) (into_iter_items l.initial.values)

abbrev pub decreases-loop-first : goal.decreases-loop-first
decreases-loop-first l = into_iter_len l.left
