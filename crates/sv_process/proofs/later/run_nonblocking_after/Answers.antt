use Rattle.std.proofs.Common.{◌∙◌}
use Rattle.sv_process.proofs.LaterLemmas.{delayed_is}
use Rattle.sv_process.proofs.later.run_nonblocking_after.Goals as goal

pub returns-clause-does : goal.returns-clause-does
returns-clause-does g c =
    let v = g.V.Values.view c.args.values.now in
    delayed_is c.args.design.now c.pass_with.new.frames c.pass_with.new.out.items _ _ c.args.targets.now c.args.expr.now c.args.delay.now c.args.in_ticks v
    c.in_ok-n.n c.in_ok-x.x _ c.ticks_in.result c.in_ok-moment.moment _
    c.in_ok-n.ensures c.in_ok-x.ensures c.in_ok-places.ensures c.ticks_in.ensures
    c.in_ok-moment.ensures (c.from_vec.ensures ∙ c.in_ok-list.ensures) c.in_ok-leave_first.ensures c.in_ok-pass_with.ensures
