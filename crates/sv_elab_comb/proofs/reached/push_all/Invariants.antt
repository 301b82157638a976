use Rattle.std.proofs.Common.{◌≡◌, ◌++◌, length}
use Rattle.sv_elab_comb.proofs.reached.push_all.Given as goal

abbrev pub invariant-loop-left : goal.invariant-loop-left
invariant-loop-left l =
    l.ids ++ l.left
    ≡ l.initial.ids ++ l.more

abbrev pub decreases-loop-left : goal.decreases-loop-left
decreases-loop-left l = length l.left
