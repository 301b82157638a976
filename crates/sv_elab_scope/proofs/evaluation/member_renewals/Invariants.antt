use Rattle.std.proofs.Common.{◌≡◌, ◌++◌, ◌∷◌, drop}
use Rattle.sv_names.specs.Views.{around_in}
use Rattle.sv_elab_scope.specs.Stages.{is_last}
use Rattle.sv_elab_scope.specs.Settling.{member_renewals}
use Rattle.sv_elab_scope.proofs.evaluation.member_renewals.Given as goal

abbrev pub invariant-loop-entries : goal.invariant-loop-entries
invariant-loop-entries g l =
    l.renewed ++ member_renewals g.M.Means.meant (is_last l.stage) (around_in l.around) (drop l.entries-index l.members) l.marks l.classes
    ≡ l.fn.own ∷ member_renewals g.M.Means.meant (is_last l.stage) (around_in l.around) l.members l.initial.marks l.initial.classes
