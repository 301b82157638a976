use Rattle.sv_arena.proofs.MadeLaws.{made_empty}
use Rattle.sv_arena.proofs.activations.Activations.new.Goals as goal

pub returns : goal.returns
returns c = made_empty c.new-2.result c.loop.by_process.items c.args.processes c.loop.counter c.new-2.ensures c.loop.invariant c.loop-test.false c.loop.auto.counter-end
