use Rattle.std.proofs.Common.{◌≡◌, ◌++◌, length}
use Rattle.sv_elab_declare.specs.Given.{givens_in}
use Rattle.sv_elab_walk.specs.Givens.{kept_in}
use Rattle.sv_elab_walk.proofs.givens.givens_of.Given as goal

abbrev pub invariant-loop-left : goal.invariant-loop-left
invariant-loop-left l = givens_in l.list ++ kept_in l.left ≡ kept_in l.kept

abbrev pub decreases-loop-left : goal.decreases-loop-left
decreases-loop-left l = length l.left
