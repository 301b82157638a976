use Rattle.sv_store.proofs.SlotLemmas.{set-changed_to}
use Rattle.sv_store.proofs.slot.driven_value.Goals as goal

pub returns-clause-new : goal.returns-clause-new
returns-clause-new c = set-changed_to c.args.drivers.now.items c.args.driver c.args.given
