use Rattle.std.proofs.Common.{◌≡◌}
use Rattle.sv_names.specs.Hoisted.{in_row}
use Rattle.sv_elab_flow.specs.Heads.{both_rows}
use Rattle.sv_elab_flow.proofs.rows.in_row.Given as goal

abbrev pub invariant-loop-part : goal.invariant-loop-part
invariant-loop-part g l = both_rows l.row (in_row l.part-iterator.rest.items) ≡ in_row l.fn.parts
