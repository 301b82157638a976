use Rattle.std.proofs.Common.{arith}
use Rattle.sv_elab_operator.specs.declared.times.TheConstants.{TOO_MANY}
use Rattle.sv_elab_operator.proofs.TimeLaws.{too_many}
use Rattle.sv_elab_operator.proofs.times.in_parts.Goals as goal

pub returns-else-number : goal.returns-else-number
returns-else-number c d e = too_many d TOO_MANY c.args.number c.args.k e (omega arith)
