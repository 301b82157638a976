use Rattle.std.proofs.Common.{◌≡◌, drop}
use Rattle.sv_elab_flow.specs.Heads as heads
use Rattle.sv_elab_flow.proofs.heads.with_labels.Given as goal

abbrev pub invariant-loop-label : goal.invariant-loop-label
invariant-loop-label l = heads.with_labels l.whole (drop l.label-index l.labels) ≡ heads.with_labels l.fn.context l.labels
