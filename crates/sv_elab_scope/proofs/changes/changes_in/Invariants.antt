use Rattle.std.proofs.Common.{◌≡◌, ◌++◌, drop}
use Rattle.sv_elab_scope.specs.Changes.{change_in, changes_from}
use Rattle.sv_elab_scope.proofs.changes.changes_in.Given as goal

abbrev pub invariant-loop-home : goal.invariant-loop-home
invariant-loop-home l =
    l.values ++ changes_from (change_in l.change) l.home (drop l.home l.entries) l.left
    ≡ changes_from (change_in l.change) 0 l.entries l.initial.left
