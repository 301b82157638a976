use Rattle.std.proofs.Common.{arith}
use Rattle.sv_store.proofs.SlotLemmas.{changed_at-past, set-changed_to}
use Rattle.sv_store.proofs.store.put_slot.Goals as goal

pub returns-then-o-len : goal.returns-then-o-len
returns-then-o-len c = set-changed_to c.args.slots.now.items c.args.o.0 c.args.slot

pub returns-else-o-len : goal.returns-else-o-len
returns-else-o-len c = changed_at-past c.args.slots.now.items c.args.o.0 (λ _. c.args.slot) (omega arith)
