use Rattle.std.proofs.Common.{◌≡◌, ◌++◌, drop}
use Rattle.sv_elab_scope.specs.Settling.{waits_in}
use Rattle.sv_elab_scope.proofs.marks.waits_in.Given as goal

abbrev pub invariant-loop-declaration : goal.invariant-loop-declaration
invariant-loop-declaration l = l.marks ++ waits_in (drop l.declaration-index l.known) ≡ waits_in l.known
