use Rattle.std.proofs.Common.{rules, arith}
use Rattle.sv_fork.proofs.NumberLaws.{numbers_done, numbers_step}
use Rattle.sv_fork.proofs.living.numbers.Goals as goal

pub loop-place-preserved : goal.loop-place-preserved
loop-place-preserved c = numbers_step c.args.members.now c.loop-place.place c.loop-place.numbers.items _ (omega arith) (search rules) c.loop-place.invariant

pub returns : goal.returns
returns c = numbers_done c.args.members.now c.loop-place.place _ (omega arith) c.loop-place.invariant
