use Rattle.std.proofs.Common.{◌≡◌, ◌+◌, ◌≤◌, drop}
use Rattle.sv_elab_scope.specs.Settling.{waiting_in}
use Rattle.sv_elab_scope.proofs.marks.waiting_in.Given as goal

abbrev pub invariant-loop-declaration : goal.invariant-loop-declaration
invariant-loop-declaration l = record {
  few : l.count ≤ l.declaration-index;
  so_far : l.count + waiting_in (drop l.declaration-index l.known) ≡ waiting_in l.known;
}
