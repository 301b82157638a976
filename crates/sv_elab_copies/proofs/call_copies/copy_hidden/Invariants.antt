use Rattle.std.proofs.Common.{◌≡◌, take}
use Rattle.sv_elab_copies.proofs.call_copies.copy_hidden.Given as goal

abbrev pub invariant-loop-ty : goal.invariant-loop-ty
invariant-loop-ty l = l.copy ≡ take l.ty-index l.hidden
