use Rattle.std.proofs.Common.{◌≡◌, ◌+◌, ◌*◌, ◌++◌, length}
use Rattle.sv_names.specs.Watched.{operands_of, body_from}
use Rattle.sv_elab_watch.specs.Reading.{routines_read}
use Rattle.sv_elab_watch.proofs.statements.+within.Given as goal

abbrev pub invariant-add_statements-loop-left : goal.invariant-add_statements-loop-left
invariant-add_statements-loop-left l =
    l.list ++ operands_of (body_from l.first l.added) (l.levels + 1) l.depth l.left
    ≡ l.initial.list ++ operands_of (body_from l.first l.added) (l.levels + 1) l.depth l.statements

abbrev pub decreases-add_statements-loop-left : goal.decreases-add_statements-loop-left
decreases-add_statements-loop-left l = length l.left

abbrev pub invariant-add_routines-loop-left : goal.invariant-add_routines-loop-left
invariant-add_routines-loop-left l =
    l.list ++ routines_read (body_from l.first l.added) (l.levels + 1) l.depth l.left
    ≡ l.initial.list ++ routines_read (body_from l.first l.added) (l.levels + 1) l.depth l.ids

abbrev pub decreases-add_routines-loop-left : goal.decreases-add_routines-loop-left
decreases-add_routines-loop-left l = length l.left

abbrev pub decreases-add_statements : goal.decreases-add_statements
decreases-add_statements l = 3 * l.levels + 2

abbrev pub decreases-add_inner : goal.decreases-add_inner
decreases-add_inner l = 3 * l.levels + 1

abbrev pub decreases-add_routines : goal.decreases-add_routines
decreases-add_routines l = 3 * l.levels + 3
