use Rattle.std.proofs.Common.{◌≡◌, drop}
use Rattle.sv_elab_scope.specs.Loops.{with_new}
use Rattle.sv_elab_scope.proofs.loops.with_new.Given as goal

abbrev pub invariant-loop-id : goal.invariant-loop-id
invariant-loop-id l = with_new (drop l.id-index l.more) l.found ≡ with_new l.more l.initial.found
