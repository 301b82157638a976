use Rattle.std.proofs.Common.{◌≡◌}
use Rattle.sv_names.specs.Hoisted.{in_row}
use Rattle.sv_elab_flow.specs.Heads as heads
use Rattle.sv_elab_flow.proofs.heads.compared_row.Given as goal

abbrev pub invariant-loop-label : goal.invariant-loop-label
invariant-loop-label l =
    heads.both_rows l.row (in_row (heads.compared l.fn.context l.label-iterator.rest.items)) ≡ in_row (heads.compared l.fn.context l.fn.labels)
