use Rattle.std.proofs.Common.{◌≡◌, drop}
use Rattle.sv_flat.specs.Eval as eval
use Rattle.sv_eval.proofs.texts.name_of.Given as goal

abbrev pub invariant-loop-item : goal.invariant-loop-item
invariant-loop-item l = eval.name_of l.items l.value ≡ eval.name_of (drop l.item-index l.items) l.value
