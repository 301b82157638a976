use Rattle.std.proofs.Common.{◌≡◌, drop}
use Rattle.sv_names.specs.Cases.{labels_of}
use Rattle.sv_elab_flow.specs.Heads as heads
use Rattle.sv_elab_flow.proofs.heads.with_rows.Given as goal

abbrev pub invariant-loop-row : goal.invariant-loop-row
invariant-loop-row l = heads.with_labels l.whole (labels_of (drop l.row-index l.rows)) ≡ heads.with_labels l.fn.context (labels_of l.rows)
