use Rattle.std.proofs.Common.{◌≡◌, ◌++◌, drop}
use Rattle.sv_elab_scope.specs.Changes.{change_in, changes_at}
use Rattle.sv_elab_scope.proofs.changes.changes_at.Given as goal

abbrev pub invariant-loop-entry : goal.invariant-loop-entry
invariant-loop-entry l =
    l.values ++ changes_at (change_in l.change) l.home (drop l.entry-index l.entries) l.left
    ≡ changes_at (change_in l.change) l.home l.entries l.initial.left
