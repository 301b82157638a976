use Rattle.std.proofs.Common.{◌≡◌, ◌++◌, drop}
use Rattle.sv_elab_scope.specs.Needs.{still_in}
use Rattle.sv_elab_scope.proofs.needs.still_in.Given as goal

abbrev pub invariant-loop-list : goal.invariant-loop-list
invariant-loop-list l = l.marks ++ still_in (drop l.list-index l.values) ≡ still_in l.values
