use Rattle.std.proofs.Common.{◌≡◌}
use Rattle.sv_elab_scope.specs.Loops.{reached}
use Rattle.sv_elab_scope.proofs.loops.reached.Given as goal

abbrev pub invariant-loop-left : goal.invariant-loop-left
invariant-loop-left l = reached l.needed l.left l.found ≡ reached l.needed l.initial.left l.initial.found

abbrev pub decreases-loop-left : goal.decreases-loop-left
decreases-loop-left l = l.left
