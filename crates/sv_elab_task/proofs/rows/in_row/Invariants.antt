use Rattle.std.proofs.Common.{◌≡◌, ◌++◌}
use Rattle.sv_names.specs.Hoisted.{paired, in_row}
use Rattle.sv_elab_task.proofs.rows.in_row.Given as goal

abbrev pub invariant-loop-value : goal.invariant-loop-value
invariant-loop-value l = paired (λ xs ys. xs ++ ys) l.row (in_row l.value-iterator.rest.items) ≡ in_row l.fn.values
