use Rattle.std.proofs.Common.{ap, sym, ◌∙◌}
use Rattle.sv_flat.specs.Statements.Delays.{delayed}
use Rattle.sv_process.proofs.WaitLemmas.{delayed_by}
use Rattle.sv_process.proofs.waits.run_delay.Goals as goal

pub returns-clause-does : goal.returns-clause-does
returns-clause-does g c =
    let v = g.V.Values.view c.args.values.now in
    delayed_by c.args.design.now _ _ _ _ c.args.amount.now _ c.in_ok-n.n c.args.in_ticks _
    c.in_ok-n.ensures
    (ap (λ k. delayed k v) (sym c.ticks_in.ensures)
    ∙ c.delay_effect-effect.ensures c.args.design.now)
    c.in_ok-leave_first.ensures c.in_ok-wait_with.ensures
