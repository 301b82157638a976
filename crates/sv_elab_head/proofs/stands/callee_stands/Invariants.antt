use Rattle.std.proofs.Common.{◌≡◌, length}
use Rattle.sv_names.specs.Checked.{all, ◌where_also◌}
use Rattle.sv_names.specs.Scopes.{callee_stands}
use Rattle.sv_elab_head.specs.Standing.{formal_stands}
use Rattle.sv_elab_head.proofs.stands.callee_stands.Given as goal

abbrev pub invariant-loop-left : goal.invariant-loop-left
invariant-loop-left l = (l.guards where_also all formal_stands l.left) ≡ callee_stands l.of

abbrev pub decreases-loop-left : goal.decreases-loop-left
decreases-loop-left l = length l.left
