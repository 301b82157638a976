use Rattle.std.proofs.Common.{sym, subst}
use Rattle.sv_names.specs.declared.checked.Checked.{Checked}
use Rattle.sv_names.specs.declared.ty.Ty.{Ty}
use Rattle.sv_names.specs.Checked.{◌▷◌}
use Rattle.sv_names.specs.Views.{around_in}
use Rattle.sv_names.specs.Given.{Gives}
use Rattle.sv_elab_type.specs.Parameters.{of_type}
use Rattle.sv_elab_type.proofs.parameters.valued.Goals as goal

pub returns-in-Ok : goal.returns-in-Ok
returns-in-Ok c =
    subst (λ (x : Checked Ty). Gives c.of_type.result (x ▷ of_type (around_in c.args.around.now) c.args.at c.args.t)) (sym c.in-Ok.ensures) c.of_type.ensures
