use Rattle.std.proofs.Common.{◌≡◌, false, replicate}
use Rattle.sv_value.specs.declared.word.Sym.TheVariants.{Z}
use Rattle.sv_value.specs.Vector.{vector}
use Rattle.sv_store.proofs.slot.Slot.net.Given as goal

abbrev pub invariant-loop-i : goal.invariant-loop-i
invariant-loop-i l = l.drivers.items ≡ replicate l.i (vector false (replicate l.width Z))
