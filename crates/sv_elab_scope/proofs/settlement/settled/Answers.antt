-- The rounds of the code, and their end, are those of the definition.
use Rattle.sv_names.specs.Views.{around_in}
use Rattle.sv_elab_scope.specs.Rows.{group_in}
use Rattle.sv_elab_scope.proofs.EndLaws.{settled-is}
use Rattle.sv_elab_scope.proofs.settlement.settled.Goals as goal

pub returns : goal.returns
returns g c = λ agree.
    settled-is g.M.Means.meant (around_in c.args.around.now) c.args.path.now c.args.entries.now (group_in c.args.group)
    (group_in c.in_ok-known.known) (group_in c.in_ok-settled.settled) agree c.in_ok-known.ensures c.in_ok-settled.ensures
