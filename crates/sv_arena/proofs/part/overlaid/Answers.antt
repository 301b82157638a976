use Rattle.std.proofs.Common.{◌-ℤ◌, pos, arith}
use Rattle.sv_value.proofs.Words.{same_vector}
use Rattle.sv_store.proofs.PartLaws.{over_no_bit}
use Rattle.sv_arena.proofs.part.overlaid.Goals as goal

pub returns-then-count-eq0 : goal.returns-then-count-eq0
returns-then-count-eq0 c =
    same_vector (over_no_bit c.args.old.symbols c.args.given.symbols (pos 0 -ℤ c.args.range.low) c.args.range.width (omega arith) (omega arith))
