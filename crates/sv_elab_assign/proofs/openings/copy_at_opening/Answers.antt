use Rattle.std.proofs.Common.{subst}
use Rattle.sv_flat.specs.declared.object.Initial.{Initial}
use Rattle.sv_names.specs.declared.checked.Checked.{Checked}
use Rattle.sv_names.specs.Given.{Gives}
use Rattle.sv_names.specs.Views.{around_in}
use Rattle.sv_elab_assign.proofs.OpeningLaws.{copy_is}
use Rattle.sv_elab_assign.proofs.openings.copy_at_opening.Goals as goal

pub returns : goal.returns
returns c n is =
    subst (λ (x : Checked Initial). Gives c.copy_opening.result x)
    (copy_is (around_in c.args.around.now) c.args.at c.args.ty.now n c.args.place c.args.value is) c.copy_opening.ensures
