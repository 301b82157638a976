use Rattle.std.proofs.Common.{◌≡◌, take}
use Rattle.sv_elab_copies.proofs.call_copies.copy_arguments.Given as goal

abbrev pub invariant-loop-argument : goal.invariant-loop-argument
invariant-loop-argument l = l.copy ≡ take l.argument-index l.arguments
