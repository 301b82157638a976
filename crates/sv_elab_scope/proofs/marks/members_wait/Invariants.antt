use Rattle.std.proofs.Common.{◌≡◌, ◌++◌, ◌∷◌, drop}
use Rattle.sv_elab_scope.specs.Rows.{members_known}
use Rattle.sv_elab_scope.specs.Settling.{marks_in}
use Rattle.sv_elab_scope.proofs.marks.members_wait.Given as goal

abbrev pub invariant-loop-class : goal.invariant-loop-class
invariant-loop-class l = l.marks ++ marks_in (members_known (drop l.class-index l.classes)) ≡ l.fn.own ∷ marks_in (members_known l.classes)
