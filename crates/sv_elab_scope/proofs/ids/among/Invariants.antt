use Rattle.std.proofs.Common.{◌≡◌, drop}
use Rattle.sv_elab_scope.specs.Ids.{among_id}
use Rattle.sv_elab_scope.proofs.ids.among.Given as goal

abbrev pub invariant-loop-other : goal.invariant-loop-other
invariant-loop-other l = among_id l.id (drop l.other-index l.others) ≡ among_id l.id l.others
