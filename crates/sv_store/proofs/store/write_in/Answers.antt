use Rattle.std.proofs.Common.{rules}
use Rattle.sv_flat.specs.Effects.Writes.{stored_over}
use Rattle.sv_store.proofs.SlotLemmas.{set-changed_at, if_ok}
use Rattle.sv_store.proofs.store.write_in.Goals as goal

pub returns-clause-new : goal.returns-clause-new
returns-clause-new c =
    if_ok c.write.result (λ e.
    set-changed_at c.args.slots.now.items c.args.o.0 (stored_over c.args.i c.args.part c.args.value) c.index_mut-slot.result.now c.write.new.self (search rules) e)
    c.write.ensures.new
