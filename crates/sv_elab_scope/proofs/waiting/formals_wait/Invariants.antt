use Rattle.std.proofs.Common.{◌≡◌, drop}
use Rattle.sv_names.specs.Rounds.{formals_wait}
use Rattle.sv_elab_scope.proofs.waiting.formals_wait.Given as goal

abbrev pub invariant-loop-formal : goal.invariant-loop-formal
invariant-loop-formal l = formals_wait (drop l.formal-index l.formals) ≡ formals_wait l.formals
