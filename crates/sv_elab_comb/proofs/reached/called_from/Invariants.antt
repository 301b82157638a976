use Rattle.std.proofs.Common.{◌≡◌, ◌++◌, length}
use Rattle.std.specs.Prelude.{flat_map}
use Rattle.sv_flat.specs.Names.{called_in}
use Rattle.sv_elab_comb.proofs.reached.called_from.Given as goal

abbrev pub invariant-loop-left : goal.invariant-loop-left
invariant-loop-left l =
    l.ids ++ flat_map (called_in l.parts) l.left
    ≡ l.initial.ids ++ flat_map (called_in l.parts) l.callers

abbrev pub decreases-loop-left : goal.decreases-loop-left
decreases-loop-left l = length l.left
