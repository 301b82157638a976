use Rattle.std.proofs.Common.{subst}
use Rattle.sv_flat.specs.declared.object.Initial.{Initial}
use Rattle.sv_names.specs.declared.checked.Checked.{Checked}
use Rattle.sv_names.specs.Given.{Gives}
use Rattle.sv_names.specs.Views.{around_in}
use Rattle.sv_elab_assign.proofs.OpeningLaws.{sync_is}
use Rattle.sv_elab_assign.proofs.openings.sync_at_opening.Goals as goal

pub returns : goal.returns
returns c at sync =
    subst (λ (x : Checked Initial). Gives c.sync_opening.result x)
    (sync_is (around_in c.args.around.now) at c.args.ty.now c.args.place c.args.args sync) c.sync_opening.ensures
