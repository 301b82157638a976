use Rattle.std.proofs.Common.{subst, ap, ◌∙◌}
use Rattle.sv_flat.specs.declared.stmt.Form.{Form}
use Rattle.sv_names.specs.declared.checked.Checked.{Checked}
use Rattle.sv_names.specs.declared.hoisted.Hoisted.{Hoisted}
use Rattle.sv_names.specs.Checked.{given, also_broken}
use Rattle.sv_names.specs.Given.{Gives}
use Rattle.sv_names.specs.Views.{around_in}
use Rattle.sv_elab_assign.specs.Amounts.{amount_if}
use Rattle.sv_elab_assign.proofs.WholeLaws.{new_whole, new_beside}
use Rattle.sv_elab_assign.proofs.wholes.assign_new.Goals as goal

pub returns-in-Good : goal.returns-in-Good
returns-in-Good c a as' is alone made =
    subst (λ (x : Checked (Hoisted Form)). Gives c.made_behind.result x)
    (new_whole (around_in c.args.around.now) c.args.target (given amount_if c.args.amount) (c.in-Good.spots, amount_if c.in-Good.amount) a as' c.args.at
    c.args.made c.in-Good.ensures is made)
    c.made_behind.ensures

pub returns-in-Broken : goal.returns-in-Broken
returns-in-Broken c a as' is alone made =
    subst (λ (x : Checked (Hoisted Form)). Gives c.also_broken.result x)
    (ap (λ (u : Checked (Unit {0})). also_broken c.in-Broken.f u) alone
    ∙ new_beside (around_in c.args.around.now) c.args.target (given amount_if c.args.amount) c.in-Broken.f a as' c.args.at c.in-Broken.ensures is)
    c.also_broken.ensures
