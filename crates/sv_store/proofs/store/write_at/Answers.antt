use Rattle.std.proofs.Common.{arith}
use Rattle.sv_flat.specs.Effects.Writes.{stored_over}
use Rattle.sv_store.proofs.SlotLemmas.{changed_at-past}
use Rattle.sv_store.proofs.store.write_at.Goals as goal

pub returns-then-o-len-clause-new : goal.returns-then-o-len-clause-new
returns-then-o-len-clause-new c =
    changed_at-past c.args.slots.now.items c.args.o.0 (stored_over c.args.i c.args.part c.args.value) (omega arith)
