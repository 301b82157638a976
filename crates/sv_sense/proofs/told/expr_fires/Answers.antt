use Rattle.std.proofs.Common.{rules}
use Rattle.sv_sense.proofs.told.expr_fires.Goals as goal

pub returns-in-Select : goal.returns-in-Select
returns-in-Select c = λ old new h. let k = c.select_fires.ensures c.in-Select.outside old new h in search rules
