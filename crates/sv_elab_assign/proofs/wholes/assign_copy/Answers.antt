use Rattle.std.proofs.Common.{subst, ap, ◌∙◌}
use Rattle.sv_flat.specs.declared.stmt.Form.{Form}
use Rattle.sv_names.specs.declared.checked.Checked.{Checked}
use Rattle.sv_names.specs.declared.hoisted.Hoisted.{Hoisted}
use Rattle.sv_names.specs.Checked.{given, also_broken}
use Rattle.sv_names.specs.Given.{Gives}
use Rattle.sv_names.specs.Views.{around_in}
use Rattle.sv_elab_assign.specs.Amounts.{amount_if}
use Rattle.sv_elab_assign.proofs.WholeLaws.{copy_whole, copy_beside}
use Rattle.sv_elab_assign.proofs.wholes.assign_copy.Goals as goal

pub returns-in-Good : goal.returns-in-Good
returns-in-Good c n is =
    subst (λ (x : Checked (Hoisted Form)). Gives c.copy_behind.result x)
    (copy_whole (around_in c.args.around.now) c.args.target (given amount_if c.args.amount) (c.in-Good.spots, amount_if c.in-Good.amount) n c.args.at c.args.value
    c.in-Good.ensures is)
    c.copy_behind.ensures

pub returns-in-Broken : goal.returns-in-Broken
returns-in-Broken c n is =
    subst (λ (x : Checked (Hoisted Form)). Gives c.also_broken.result x)
    (ap (λ (u : Checked (Unit {0})). also_broken c.in-Broken.f u) c.only.ensures
    ∙ copy_beside (around_in c.args.around.now) c.args.target (given amount_if c.args.amount) c.in-Broken.f n c.args.at c.args.value c.in-Broken.ensures is)
    c.also_broken.ensures
