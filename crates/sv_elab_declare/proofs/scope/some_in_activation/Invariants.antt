use Rattle.std.proofs.Common.{◌≡◌, drop}
use Rattle.sv_elab_declare.specs.Alone.{some_in_activation}
use Rattle.sv_elab_declare.proofs.scope.some_in_activation.Given as goal

abbrev pub invariant-loop-one : goal.invariant-loop-one
invariant-loop-one l = some_in_activation (drop l.one-index l.names) ≡ some_in_activation l.names
