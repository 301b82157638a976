use Rattle.std.proofs.Common.{arith}
use Rattle.sv_flat.specs.Effects.Writes.{value_over}
use Rattle.sv_store.proofs.SlotLemmas.{changed_at-past, set-changed_at}
use Rattle.sv_arena.proofs.activation.write_at.Goals as goal

pub returns-in-Some : goal.returns-in-Some
returns-in-Some c =
    set-changed_at c.args.values.now.items c.args.place (λ v. value_over v c.args.part c.args.value) c.in-Some.variable.now c.write_over.new.variable c.in-Some.ensures.value c.write_over.ensures

pub returns-in-None : goal.returns-in-None
returns-in-None c = changed_at-past c.args.values.now.items c.args.place (λ v. value_over v c.args.part c.args.value) (omega (arith, c.in-None.ensures.item.3))
