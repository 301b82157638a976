use Rattle.std.proofs.Common.{ℕ, ap, ◌∙◌, subst}
use Rattle.sv_names.specs.declared.checked.Checked.{Checked}
use Rattle.sv_names.specs.Checked.{◌▷◌}
use Rattle.sv_names.specs.Clockings.{units_in}
use Rattle.sv_names.specs.Given.{Gives}
use Rattle.sv_names.specs.Views.{around_in}
use Rattle.sv_elab_clocking.specs.Skews.{limited}
use Rattle.sv_elab_clocking.proofs.SkewLaws.{other_amount}
use Rattle.sv_elab_clocking.proofs.skews.amount.Goals as goal

pub returns-in_default : goal.returns-in_default
returns-in_default c =
    let ar = around_in c.args.around.now in
    subst (λ (x : Checked ℕ). Gives c.in_units.result (x ▷ limited c.args.at))
    (ap (units_in ar) c.inner_of.ensures ∙ other_amount ar c.args.e.now c.in_default.not-Time)
    c.in_units.ensures
