use Rattle.std.proofs.Common.{arith, ◌∙◌}
use Rattle.sv_flat.specs.Effects.Writes.{value_over}
use Rattle.sv_store.proofs.SlotLemmas.{changed_at-past, changed_at-same, changed_at-agree}
use Rattle.sv_store.proofs.slot.write_element.Goals as goal

pub returns-then-i-len-clause-new : goal.returns-then-i-len-clause-new
returns-then-i-len-clause-new c =
    changed_at-past c.args.elements.now.items c.args.i (λ v. value_over v c.args.part c.args.value) (omega arith)

pub returns-in-None-clause-new : goal.returns-in-None-clause-new
returns-in-None-clause-new c =
    changed_at-same c.args.elements.now.items c.args.i (λ v. value_over v c.args.part c.args.value) c.index.result.now c.index.ensures c.in-None.ensures.none

pub returns-in-Some-clause-new : goal.returns-in-Some-clause-new
returns-in-Some-clause-new c =
    c.put_element.ensures.new
    ∙ changed_at-agree c.args.elements.now.items c.args.i (λ v. c.in-Some.value) (λ v. value_over v c.args.part c.args.value)
    c.index.result.now c.index.ensures c.in-Some.ensures.some
