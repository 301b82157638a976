use Rattle.sv_stack.specs.Effects.{effects_in}
use Rattle.sv_process.proofs.LeaveLemmas.{output_put}
use Rattle.sv_process.proofs.leaves.put_output.Goals as goal

pub returns : goal.returns
returns g c =
    let d = c.args.design.now in
    output_put (effects_in d c.args.out.now.items) (effects_in d c.write_all.new.out.items) c.args.formal.now.variable c.args.targets.now (g.V.Values.view c.args.callee.now)
    (g.W.Values.view c.args.caller.now) _ _ _ c.in_ok-places.ensures c.in_ok-x.ensures c.in_ok-values.ensures (c.in_ok-write_all.ensures d)
