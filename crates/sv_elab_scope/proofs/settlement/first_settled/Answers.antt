-- The rounds of the code are those of the definition.
use Rattle.std.proofs.Common.{◌∙◌}
use Rattle.sv_names.specs.Views.{around_in}
use Rattle.sv_elab_scope.specs.Rows.{group_in}
use Rattle.sv_elab_scope.proofs.RoundsLaws.{first-is}
use Rattle.sv_elab_scope.proofs.settlement.first_settled.Goals as goal

pub returns : goal.returns
returns g c = λ agree.
    c.in_ok-known.ensures
    ∙ first-is g.M.Means.meant (around_in c.args.around.now) c.args.path.now c.args.entries.now (group_in c.args.group) agree
