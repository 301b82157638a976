use Rattle.std.proofs.Common.{arith, ◌∙◌}
use Rattle.sv_flat.specs.Effects.Writes.{vector_over}
use Rattle.sv_store.proofs.SlotLemmas.{changed_at-past, changed_at-same, changed_at-agree, if_ok}
use Rattle.sv_store.proofs.slot.write_driver.Goals as goal

pub returns-then-i-len-clause-new : goal.returns-then-i-len-clause-new
returns-then-i-len-clause-new c =
    changed_at-past c.args.drivers.now.items c.args.i (λ v. vector_over v c.args.part c.args.value) (omega arith)

pub returns-in-None-clause-new : goal.returns-in-None-clause-new
returns-in-None-clause-new c =
    changed_at-same c.args.drivers.now.items c.args.i (λ v. vector_over v c.args.part c.args.value) c.index.result.now c.index.ensures c.in-None.ensures.none

pub returns-clause-new : goal.returns-clause-new
returns-clause-new c =
    if_ok c.put_driver.result (λ e. e
    ∙ changed_at-agree c.args.drivers.now.items c.args.i (λ v. c.in-Some.given) (λ v. vector_over v c.args.part c.args.value)
    c.index.result.now c.index.ensures c.in-Some.ensures.some)
    c.put_driver.ensures.new
