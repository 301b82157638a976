use Rattle.std.proofs.Common.{◌≡◌, ◌+◌, ◌*◌, ◌^◌, ◌≤◌, drop}
use Rattle.sv_elab_scope.specs.Rows.{members_known}
use Rattle.sv_elab_scope.specs.Settling.{waiting_lists}
use Rattle.sv_elab_scope.proofs.marks.waiting_members.Given as goal

abbrev pub invariant-loop-class : goal.invariant-loop-class
invariant-loop-class l = record {
  few : l.count ≤ 2 ^ 64 * (l.class-index + 1);
  so_far : l.count + waiting_lists (members_known (drop l.class-index l.classes)) ≡ l.fn.count + waiting_lists (members_known l.classes);
}
