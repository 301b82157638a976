use Rattle.std.proofs.Common.{rules, None}
use Rattle.sv_flat.specs.Effects.Writes.{stored_over}
use Rattle.sv_store.proofs.SlotLemmas.{set-changed_at}
use Rattle.sv_store.proofs.store.set_at.Goals as goal

pub returns-clause-new : goal.returns-clause-new
returns-clause-new c =
    set-changed_at c.args.slots.now.items c.args.o.0 (stored_over c.args.i None c.args.v) c.index_mut-slot.result.now c.set.new.self (search rules) c.set.ensures.new
