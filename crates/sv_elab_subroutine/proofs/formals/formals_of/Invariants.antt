use Rattle.std.proofs.Common.{◌≡◌, ◌++◌, map, length}
use Rattle.sv_tree.specs.UnitView.{argument, head}
use Rattle.sv_names.specs.Entries.{taken}
use Rattle.sv_names.specs.Subroutines.{object_formal, argument_formals}
use Rattle.sv_names.specs.Views.{around_in}
use Rattle.sv_elab_subroutine.specs.Formals.{formals_after}
use Rattle.sv_elab_subroutine.proofs.formals.formals_of.Given as goal

abbrev pub invariant-loop-left : goal.invariant-loop-left
invariant-loop-left l =
    l.formals ++ formals_after (around_in l.around) l.scope l.direction (map argument l.left)
    ≡ object_formal (around_in l.around) l.scope ++ argument_formals (around_in l.around) l.scope (taken (head l.of))

abbrev pub decreases-loop-left : goal.decreases-loop-left
decreases-loop-left l = length l.left
