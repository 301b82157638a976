use Rattle.std.proofs.Common.{◌≡◌, ◌++◌, length}
use Rattle.sv_flat.specs.Statements.Shared.{updates_for}
use Rattle.sv_assign.specs.Places.{spots_in}
use Rattle.sv_process.proofs.later.updates_of.Given as goal

-- what is updated, and what is still to be updated
abbrev pub invariant-loop-list : goal.invariant-loop-list
invariant-loop-list l = l.list.items ++ updates_for (spots_in l.places.items) l.values.items
    ≡ updates_for (spots_in l.initial.places.items) l.initial.values.items

abbrev pub decreases-loop-list : goal.decreases-loop-list
decreases-loop-list l = length l.places.items
