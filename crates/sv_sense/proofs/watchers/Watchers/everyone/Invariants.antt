use Rattle.std.proofs.Common.{◌≡◌}
use Rattle.sv_sense.specs.Watchers.{from_on}
use Rattle.sv_sense.proofs.watchers.Watchers.everyone.Given as goal

abbrev pub invariant-loop-number : goal.invariant-loop-number
invariant-loop-number l = l.numbers.items ≡ from_on 0 l.number
