use Rattle.std.proofs.Common.{◌≡◌, ◌≤◌, min, drop}
use Rattle.sv_names.specs.Literals as literals
use Rattle.sv_elab_operator.specs.declared.times.TheConstants.{TOO_MANY}
use Rattle.sv_elab_operator.proofs.times.number_of.Given as goal

abbrev pub invariant-loop-digit : goal.invariant-loop-digit
invariant-loop-digit l = record {
  kept : l.number ≤ TOO_MANY;
  so_far : min (literals.decimal_from l.number (drop l.digit-index l.digits)) TOO_MANY ≡ min (literals.decimal_from 0 l.digits) TOO_MANY;
}
