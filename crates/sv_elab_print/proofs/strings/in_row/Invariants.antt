use Rattle.std.proofs.Common.{◌≡◌}
use Rattle.sv_names.specs.Hoisted.{in_row}
use Rattle.sv_elab_print.specs.Printing.{rows}
use Rattle.sv_elab_print.proofs.strings.in_row.Given as goal

abbrev pub invariant-loop-part : goal.invariant-loop-part
invariant-loop-part l = rows l.row (in_row l.part-iterator.rest.items) ≡ in_row l.fn.parts
