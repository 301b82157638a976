use Rattle.std.proofs.Common.{◌≡◌, ◌++◌, drop}
use Rattle.sv_elab_scope.specs.Ids.{among_at}
use Rattle.sv_elab_scope.proofs.ids.marks_at.Given as goal

abbrev pub invariant-loop-entry : goal.invariant-loop-entry
invariant-loop-entry l = l.marks ++ among_at l.others l.home (drop l.entry-index l.entries) ≡ among_at l.others l.home l.entries
