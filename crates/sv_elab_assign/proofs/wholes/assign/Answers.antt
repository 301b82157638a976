use Rattle.std.proofs.Common.{subst, ap, ◌∙◌}
use Rattle.sv_flat.specs.declared.stmt.Form.{Form}
use Rattle.sv_names.specs.declared.checked.Checked.{Checked}
use Rattle.sv_names.specs.declared.hoisted.Hoisted.{Hoisted}
use Rattle.sv_names.specs.Checked.{given, also_broken}
use Rattle.sv_names.specs.Given.{Gives}
use Rattle.sv_names.specs.Views.{around_in}
use Rattle.sv_elab_assign.specs.Amounts.{amount_if}
use Rattle.sv_elab_assign.proofs.WholeLaws.{value_whole, value_beside}
use Rattle.sv_elab_assign.proofs.wholes.assign.Goals as goal

pub returns-in-Good : goal.returns-in-Good
returns-in-Good c e place is =
    subst (λ (x : Checked (Hoisted Form)). Gives c.value_behind.result x)
    (value_whole (around_in c.args.around.now) c.args.target (given amount_if c.args.amount) (c.in-Good.spots, amount_if c.in-Good.amount) e c.args.at c.args.value
    c.in-Good.ensures place is)
    c.value_behind.ensures

pub returns-in-Broken : goal.returns-in-Broken
returns-in-Broken c e place is =
    subst (λ (x : Checked (Hoisted Form)). Gives c.also_broken.result x)
    (ap (λ (u : Checked (Unit {0})). also_broken c.in-Broken.f u) c.only.ensures
    ∙ value_beside (around_in c.args.around.now) c.args.target (given amount_if c.args.amount) c.in-Broken.f e c.args.value c.in-Broken.ensures is)
    c.also_broken.ensures
