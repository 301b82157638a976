use Rattle.std.proofs.Common.{◌≡◌, ◌++◌, map, length}
use Rattle.sv_elab_writers.specs.Views.{initialized_in}
use Rattle.sv_elab_met.specs.Met as words
use Rattle.sv_elab_met.proofs.initializers.add_declarators.Given as goal

abbrev pub invariant-loop-left : goal.invariant-loop-left
invariant-loop-left l =
    map initialized_in l.list ++ words.declarators_initialized l.path l.left
    ≡ map initialized_in l.initial.list ++ words.declarators_initialized l.path l.names

abbrev pub decreases-loop-left : goal.decreases-loop-left
decreases-loop-left l = length l.left
