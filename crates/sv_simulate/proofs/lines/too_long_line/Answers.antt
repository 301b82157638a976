use Rattle.std.proofs.Common.{rules}
use mathlib.Core.List.{append_assoc}
use Rattle.sv_simulate.proofs.lines.too_long_line.Goals as goal

pub returns : goal.returns
returns c = search (rules, append_assoc)
