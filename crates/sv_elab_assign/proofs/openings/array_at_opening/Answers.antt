use Rattle.std.proofs.Common.{subst}
use Rattle.sv_flat.specs.declared.object.Initial.{Initial}
use Rattle.sv_names.specs.declared.checked.Checked.{Checked}
use Rattle.sv_names.specs.Given.{Gives}
use Rattle.sv_names.specs.Views.{around_in}
use Rattle.sv_elab_assign.proofs.OpeningLaws.{array_is}
use Rattle.sv_elab_assign.proofs.openings.array_at_opening.Goals as goal

pub returns : goal.returns
returns c n old place is source =
    subst (λ (x : Checked Initial). Gives c.array_opening.result x)
    (array_is (around_in c.args.around.now) c.args.at c.args.ty.now n old c.args.place c.args.size_at c.args.size c.args.source place is source)
    c.array_opening.ensures
