use Rattle.std.proofs.Common.{◌≡◌, ◌++◌, length}
use Rattle.sv_elab_comb.specs.Combs.{read_in}
use Rattle.sv_elab_comb.proofs.combs.read_in.Given as goal

abbrev pub invariant-loop-left : goal.invariant-loop-left
invariant-loop-left l =
    l.list ++ read_in l.parts l.left
    ≡ l.initial.list ++ read_in l.parts l.ids

abbrev pub decreases-loop-left : goal.decreases-loop-left
decreases-loop-left l = length l.left
