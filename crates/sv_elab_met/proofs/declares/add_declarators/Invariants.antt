use Rattle.std.proofs.Common.{◌≡◌, ◌++◌, map, length}
use Rattle.sv_elab_scope.specs.Rows.{group_in}
use Rattle.sv_elab_writers.specs.Views.{touch_in}
use Rattle.sv_elab_met.specs.Met as words
use Rattle.sv_elab_met.proofs.declares.add_declarators.Given as goal

abbrev pub invariant-loop-left : goal.invariant-loop-left
invariant-loop-left l =
    map touch_in l.touches ++ words.declarators_declare (group_in l.group) l.left
    ≡ map touch_in l.initial.touches ++ words.declarators_declare (group_in l.group) l.names

abbrev pub decreases-loop-left : goal.decreases-loop-left
decreases-loop-left l = length l.left
