use Rattle.std.proofs.Common.{◌≡◌, Some, length}
use Rattle.sv_fork.specs.Tree.{descends_in}
use Rattle.sv_fork.proofs.family.descends.Given as goal

abbrev pub invariant-loop-below : goal.invariant-loop-below
invariant-loop-below l = descends_in (length l.members) l.members (Some l.below) l.process ≡ descends_in (length l.members) l.members (Some l.fn.one) l.process

abbrev pub decreases-loop-below : goal.decreases-loop-below
decreases-loop-below l = l.below.0
