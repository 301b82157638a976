use Rattle.std.proofs.Common.{◌≡◌, ◌++◌, drop}
use Rattle.sv_elab_scope.specs.Ids.{ids_from}
use Rattle.sv_elab_scope.proofs.ids.marked.Given as goal

abbrev pub invariant-loop-home : goal.invariant-loop-home
invariant-loop-home l = l.found ++ ids_from l.home (drop l.home l.entries) l.left ≡ ids_from 0 l.entries l.initial.left
