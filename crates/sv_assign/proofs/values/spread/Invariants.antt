use Rattle.std.proofs.Common.{◌≡◌, ◌++◌, drop}
use Rattle.std.specs.Prelude.{sum_by}
use Rattle.sv_flat.specs.Targets.{at_least, spread, target_width}
use Rattle.sv_assign.proofs.values.spread.Given as goal

abbrev pub invariant-loop-target : goal.invariant-loop-target
invariant-loop-target l = record {
  low : l.low ≡ sum_by target_width (drop l.target-index l.targets);
  rest : l.values.items ++ spread (drop l.target-index l.targets) (at_least (sum_by target_width l.targets) l.value)
      ≡ spread l.targets (at_least (sum_by target_width l.targets) l.value);
}
