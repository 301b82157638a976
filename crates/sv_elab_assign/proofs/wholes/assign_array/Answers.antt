use Rattle.std.proofs.Common.{subst, ap, ◌∙◌}
use Rattle.sv_flat.specs.declared.stmt.Form.{Form}
use Rattle.sv_names.specs.declared.checked.Checked.{Checked}
use Rattle.sv_names.specs.declared.hoisted.Hoisted.{Hoisted}
use Rattle.sv_names.specs.Checked.{given, also_broken}
use Rattle.sv_names.specs.Given.{Gives}
use Rattle.sv_names.specs.Views.{around_in}
use Rattle.sv_elab_assign.specs.Amounts.{amount_if}
use Rattle.sv_elab_assign.proofs.WholeLaws.{array_whole, array_beside}
use Rattle.sv_elab_assign.proofs.wholes.assign_array.Goals as goal

pub returns-in-Good : goal.returns-in-Good
returns-in-Good c n old place is source =
    subst (λ (x : Checked (Hoisted Form)). Gives c.array_behind.result x)
    (array_whole (around_in c.args.around.now) c.args.target (given amount_if c.args.amount) (c.in-Good.spots, amount_if c.in-Good.amount) n old c.args.at
    c.args.place c.args.size c.args.source c.in-Good.ensures place is source)
    c.array_behind.ensures

pub returns-in-Broken : goal.returns-in-Broken
returns-in-Broken c n old place is source =
    subst (λ (x : Checked (Hoisted Form)). Gives c.also_broken.result x)
    (ap (λ (u : Checked (Unit {0})). also_broken c.in-Broken.f u) c.array_alone.ensures
    ∙ array_beside (around_in c.args.around.now) c.args.target (given amount_if c.args.amount) c.in-Broken.f n old c.args.at c.args.size c.args.source
    c.in-Broken.ensures is source)
    c.also_broken.ensures
