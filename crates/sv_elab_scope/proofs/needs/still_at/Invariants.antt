use Rattle.std.proofs.Common.{◌≡◌, ◌++◌, drop}
use Rattle.sv_elab_scope.specs.Needs.{still_at}
use Rattle.sv_elab_scope.proofs.needs.still_at.Given as goal

abbrev pub invariant-loop-value : goal.invariant-loop-value
invariant-loop-value l = l.marks ++ still_at (drop l.value-index l.values) ≡ still_at l.values
