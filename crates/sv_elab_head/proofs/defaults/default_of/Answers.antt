-- The place is that of the default.
use Rattle.std.proofs.Common.{subst}
use Rattle.sv_value.specs.declared.place.Place.{Place}
use Rattle.sv_tree.specs.View.{expr}
use Rattle.sv_names.specs.Given.{Gives}
use Rattle.sv_names.specs.Views.{around_in}
use Rattle.sv_elab_head.specs.Formals.{constant_in, fitting_both}
use Rattle.sv_elab_head.proofs.defaults.default_of.Goals as goal

pub returns : goal.returns
returns c =
    let ar = around_in c.args.around.now in
    let value = constant_in ar (expr c.args.default.now) in
    subst (λ (at : Place). Gives c.fitting_both.result (fitting_both ar c.args.ty.now at value)) c.place_of-at.ensures
    (c.fitting_both.ensures value c.constant_in-value.ensures)
