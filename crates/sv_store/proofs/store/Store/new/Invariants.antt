use Rattle.std.proofs.Common.{◌≡◌, take}
use Rattle.sv_store.specs.First.{first_store}
use Rattle.sv_store.proofs.store.Store.new.Given as goal

abbrev pub invariant-loop-object : goal.invariant-loop-object
invariant-loop-object l = l.slots.items ≡ first_store (take l.object-index l.objects)
