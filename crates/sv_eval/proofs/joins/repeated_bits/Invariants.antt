use Rattle.std.proofs.Common.{◌≡◌}
use Rattle.sv_flat.specs.Eval as eval
use Rattle.sv_eval.proofs.joins.repeated_bits.Given as goal

abbrev pub invariant-loop-copy : goal.invariant-loop-copy
invariant-loop-copy l = l.whole.symbols ≡ eval.repeated l.copy l.part.symbols
