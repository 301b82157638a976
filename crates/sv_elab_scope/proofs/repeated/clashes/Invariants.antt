use Rattle.std.proofs.Common.{◌≡◌, drop}
use Rattle.sv_elab_scope.specs.Repeated.{clash_of, seen_in}
use Rattle.sv_elab_scope.proofs.repeated.clashes.Given as goal

abbrev pub invariant-loop-other : goal.invariant-loop-other
invariant-loop-other l = clash_of l.entry (seen_in (drop l.other-index l.before)) ≡ clash_of l.entry (seen_in l.before)
