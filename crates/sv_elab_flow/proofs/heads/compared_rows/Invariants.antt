use Rattle.std.proofs.Common.{◌≡◌}
use Rattle.sv_elab_flow.specs.Heads as heads
use Rattle.sv_elab_flow.proofs.heads.compared_rows.Given as goal

abbrev pub invariant-loop-row : goal.invariant-loop-row
invariant-loop-row l =
    heads.both_rows l.all (heads.all_compared l.fn.context l.row-iterator.rest.items) ≡ heads.all_compared l.fn.context l.fn.rows
