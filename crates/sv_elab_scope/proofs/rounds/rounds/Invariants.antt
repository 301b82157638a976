use Rattle.std.proofs.Common.{◌≡◌}
use Rattle.sv_names.specs.Views.{around_in}
use Rattle.sv_elab_scope.specs.Rows.{group_in}
use Rattle.sv_elab_scope.specs.Stages.{is_last}
use Rattle.sv_elab_scope.specs.Settling.{group_rounds, waiting_group}
use Rattle.sv_elab_scope.proofs.rounds.rounds.Given as goal

abbrev pub invariant-loop-left : goal.invariant-loop-left
invariant-loop-left g l = record {
  counted : l.before ≡ waiting_group (group_in l.group);
  so_far :
      group_rounds g.M.Means.meant (is_last l.stage) (around_in l.around) l.path l.entries l.left (group_in l.group)
      ≡ group_rounds g.M.Means.meant (is_last l.stage) (around_in l.around) l.path l.entries l.initial.left (group_in l.initial.group);
}

abbrev pub decreases-loop-left : goal.decreases-loop-left
decreases-loop-left g l = l.left
