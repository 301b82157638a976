use Rattle.std.proofs.Common.{◌≡◌, ◌++◌, drop}
use Rattle.sv_elab_scope.specs.Ids.{ids_at}
use Rattle.sv_elab_scope.proofs.ids.push_marked.Given as goal

abbrev pub invariant-loop-entry : goal.invariant-loop-entry
invariant-loop-entry l =
    l.found ++ ids_at l.home (drop l.entry-index l.entries) l.left ≡ l.initial.found ++ ids_at l.home l.entries l.initial.left
