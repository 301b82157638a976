use Rattle.std.proofs.Common.{arith, ◌∙◌}
use Rattle.sv_eval.proofs.VectorLaws.{log_next, next_power}
use Rattle.sv_eval.proofs.vectors.log_of_number.Goals as goal

pub loop-place-preserved : goal.loop-place-preserved
loop-place-preserved c = record {
  within = omega arith;
  power = next_power c.loop-place.power c.loop-place.place c.loop-place.invariant.power;
  so_far = c.loop-place.invariant.so_far
      ∙ log_next c.args.width c.args.number c.loop-place.place c.loop-place.power (omega arith) c.loop-place.invariant.power (omega arith);
}
