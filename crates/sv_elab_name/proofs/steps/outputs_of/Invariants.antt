use Rattle.std.proofs.Common.{◌≡◌, ◌++◌, drop}
use Rattle.sv_names.specs.Calls.{outputs_of}
use Rattle.sv_elab_name.proofs.steps.outputs_of.Given as goal

abbrev pub invariant-loop-formal : goal.invariant-loop-formal
invariant-loop-formal l = l.outputs ++ outputs_of (drop l.formal-index l.formals) ≡ outputs_of l.formals
