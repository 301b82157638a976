use Rattle.std.proofs.Common.{◌≡◌, length}
use Rattle.sv_flat.specs.Names.{with_new}
use Rattle.sv_elab_comb.proofs.reached.add_all_new.Given as goal

abbrev pub invariant-loop-left : goal.invariant-loop-left
invariant-loop-left l =
    with_new l.ids l.left
    ≡ with_new l.initial.ids l.more

abbrev pub decreases-loop-left : goal.decreases-loop-left
decreases-loop-left l = length l.left
