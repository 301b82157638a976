use Rattle.std.proofs.Common.{◌≡◌, ◌++◌, drop}
use Rattle.sv_names.specs.Views.{around_in}
use Rattle.sv_elab_scope.specs.Stages.{is_last}
use Rattle.sv_elab_scope.specs.Settling.{renewals}
use Rattle.sv_elab_scope.proofs.evaluation.renewals.Given as goal

abbrev pub invariant-loop-entry : goal.invariant-loop-entry
invariant-loop-entry g l =
    l.renewed ++ renewals (g.M.Means.meant (is_last l.stage) (around_in l.around) l.path) (drop l.entry-index l.entries) l.left
    ≡ renewals (g.M.Means.meant (is_last l.stage) (around_in l.around) l.path) l.entries l.initial.left
