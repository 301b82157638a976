use Rattle.std.proofs.Common.{◌≡◌, drop}
use Rattle.sv_names.specs.Rounds.{some_wait}
use Rattle.sv_elab_scope.proofs.waiting.some_wait.Given as goal

abbrev pub invariant-loop-signal : goal.invariant-loop-signal
invariant-loop-signal l = some_wait (drop l.signal-index l.signals) ≡ some_wait l.signals
