use Rattle.std.proofs.Common.{◌≡◌, ◌++◌, length}
use Rattle.sv_sense.specs.Objects.{watches_objects}
use Rattle.sv_sense.proofs.objects.add_watches.Given as goal

abbrev pub invariant-loop-left : goal.invariant-loop-left
invariant-loop-left l = l.list ++ watches_objects l.left ≡ l.initial.list ++ watches_objects l.watches

abbrev pub decreases-loop-left : goal.decreases-loop-left
decreases-loop-left l = length l.left
