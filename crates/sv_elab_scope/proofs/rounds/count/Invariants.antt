use Rattle.std.proofs.Common.{◌≡◌, ◌+◌, ◌*◌, ◌^◌, ◌≤◌, drop}
use Rattle.sv_elab_scope.specs.Settling.{count}
use Rattle.sv_elab_scope.proofs.rounds.count.Given as goal

abbrev pub invariant-loop-list : goal.invariant-loop-list
invariant-loop-list l = record {
  few : l.count ≤ 2 ^ 64 * l.list-index;
  so_far : l.count + count (drop l.list-index l.entries) ≡ count l.entries;
}
