use Rattle.std.proofs.Common.{◌≡◌, replicate}
use Rattle.sv_flat.specs.State.{first_value}
use Rattle.sv_store.proofs.first.first_elements.Given as goal

abbrev pub invariant-loop-i : goal.invariant-loop-i
invariant-loop-i l = l.elements.items ≡ replicate l.i (first_value l.ty)
