use Rattle.std.proofs.Common.{◌≡◌, ◌++◌, drop}
use Rattle.sv_elab_scope.specs.Ids.{among_from}
use Rattle.sv_elab_scope.proofs.ids.marks_among.Given as goal

abbrev pub invariant-loop-home : goal.invariant-loop-home
invariant-loop-home l = l.marks ++ among_from l.others l.home (drop l.home l.entries) ≡ among_from l.others 0 l.entries
