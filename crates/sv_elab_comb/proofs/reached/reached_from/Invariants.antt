use Rattle.std.proofs.Common.{◌≡◌}
use Rattle.sv_flat.specs.Names.{called_within, depth_of}
use Rattle.sv_elab_comb.proofs.reached.reached_from.Given as goal

abbrev pub invariant-loop-left : goal.invariant-loop-left
invariant-loop-left l = called_within l.left l.parts l.ids ≡ called_within (depth_of l.parts) l.parts l.initial.ids

abbrev pub decreases-loop-left : goal.decreases-loop-left
decreases-loop-left l = l.left
