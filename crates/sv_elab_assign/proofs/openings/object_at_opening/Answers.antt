use Rattle.std.proofs.Common.{subst}
use Rattle.sv_flat.specs.declared.object.Initial.{Initial}
use Rattle.sv_names.specs.declared.checked.Checked.{Checked}
use Rattle.sv_names.specs.Given.{Gives}
use Rattle.sv_elab_assign.proofs.OpeningLaws.{object_is}
use Rattle.sv_elab_assign.proofs.openings.object_at_opening.Goals as goal

pub returns : goal.returns
returns c ar at t as' other is =
    subst (λ (x : Checked Initial). Gives c.not_made.result x) (object_is ar at t c.args.place as' c.args.made other is)
    (c.not_made.ensures c.args.made c.answer.ensures)
