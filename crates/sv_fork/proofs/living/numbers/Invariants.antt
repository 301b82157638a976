use Rattle.std.proofs.Common.{◌≡◌, ◌++◌, drop}
use Rattle.sv_flat.specs.Config.{numbered_from}
use Rattle.sv_fork.proofs.living.numbers.Given as goal

abbrev pub invariant-loop-place : goal.invariant-loop-place
invariant-loop-place l = l.numbers.items ++ numbered_from l.place (drop l.place l.members) ≡ numbered_from 0 l.members
