use Rattle.std.proofs.Common.{◌≡◌, ◌++◌, drop}
use Rattle.sv_elab_scope.specs.Starting.{all_waiting}
use Rattle.sv_elab_scope.proofs.beginning.all_waiting.Given as goal

abbrev pub invariant-loop-entry : goal.invariant-loop-entry
invariant-loop-entry l = l.known ++ all_waiting (drop l.entry-index l.entries) ≡ all_waiting l.entries
