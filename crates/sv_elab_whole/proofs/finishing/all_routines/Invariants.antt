use Rattle.std.proofs.Common.{◌≡◌, ◌++◌}
use Rattle.std.specs.Prelude.{drop}
use Rattle.sv_elab_whole.proofs.finishing.all_routines.Given as goal

abbrev pub invariant-loop-routine : goal.invariant-loop-routine
invariant-loop-routine l =
    l.all ++ drop l.more l.routine-iterator.rest.items ≡ l.fn.subroutines ++ drop l.fn.places l.fn.routines
