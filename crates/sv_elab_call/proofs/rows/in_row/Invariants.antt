use Rattle.std.proofs.Common.{◌≡◌, ◌++◌}
use Rattle.sv_names.specs.Hoisted.{paired, in_row}
use Rattle.sv_elab_call.proofs.rows.in_row.Given as goal

abbrev pub invariant-loop-argument : goal.invariant-loop-argument
invariant-loop-argument l = paired (λ xs ys. xs ++ ys) l.row (in_row l.argument-iterator.rest.items) ≡ in_row l.fn.arguments
