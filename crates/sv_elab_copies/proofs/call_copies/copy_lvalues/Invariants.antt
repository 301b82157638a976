use Rattle.std.proofs.Common.{◌≡◌, take}
use Rattle.sv_elab_copies.proofs.call_copies.copy_lvalues.Given as goal

abbrev pub invariant-loop-target : goal.invariant-loop-target
invariant-loop-target l = l.copy ≡ take l.target-index l.targets
