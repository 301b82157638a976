use Rattle.std.proofs.Common.{◌-◌, ◌≡◌, ◌≤◌, ◌^◌}
use Rattle.sv_flat.specs.Eval as eval
use Rattle.sv_eval.proofs.vectors.log_of_number.Given as goal

abbrev pub invariant-loop-place : goal.invariant-loop-place
invariant-loop-place l = record {
  within : l.place ≤ l.width;
  power : l.power ≡ 2 ^ l.place;
  so_far : eval.log_from l.width l.number 0 ≡ eval.log_from (l.width - l.place) l.number l.place;
}

abbrev pub decreases-loop-place : goal.decreases-loop-place
decreases-loop-place l = l.width - l.place
