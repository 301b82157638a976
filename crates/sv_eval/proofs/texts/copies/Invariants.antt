use Rattle.std.proofs.Common.{◌≡◌}
use Rattle.sv_flat.specs.Eval as eval
use Rattle.sv_eval.proofs.texts.copies.Given as goal

abbrev pub invariant-loop-copy : goal.invariant-loop-copy
invariant-loop-copy l = l.text ≡ eval.texts l.copy l.part
