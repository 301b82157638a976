use Rattle.std.proofs.Common.{List, subst, sym, ap, ◌∙◌}
use Rattle.sv_flat.specs.declared.stmt.Form.{Form}
use Rattle.sv_names.specs.declared.checked.Checked.{Checked}
use Rattle.sv_names.specs.declared.hoisted.Hoisted.{Hoisted}
use Rattle.sv_names.specs.Checked.{also_broken}
use Rattle.sv_names.specs.Given.{Gives}
use Rattle.sv_names.specs.Targets.{Spot}
use Rattle.sv_names.specs.Views.{around_in}
use Rattle.sv_elab_assign.specs.Places.{operand_around}
use Rattle.sv_elab_assign.proofs.WholeLaws.{update_whole, update_beside}
use Rattle.sv_elab_assign.proofs.updates.update.Goals as goal

pub returns-in-Good : goal.returns-in-Good
returns-in-Good c l v place h is =
    let ar = around_in c.args.around.now in
    subst (λ (x : Checked (Hoisted Form)). Gives c.read_and_written.result x)
    (update_whole ar l c.args.word c.args.right v c.args.left c.in-Good.spots c.args.value place (sym c.in-Good.is ∙ h)
    (is ∙ ap (λ (t : Checked (List Spot)). v (operand_around ar t)) c.in-Good.is))
    c.read_and_written.ensures

pub returns-in-Broken : goal.returns-in-Broken
returns-in-Broken c l v place h is =
    let ar = around_in c.args.around.now in
    subst (λ (x : Checked (Hoisted Form)). Gives c.also_broken.result x)
    (ap (λ (u : Checked (Unit {0})). also_broken c.in-Broken.f u) c.only.ensures
    ∙ update_beside ar l c.args.word c.args.right v c.in-Broken.f c.args.value (sym c.in-Broken.is ∙ h)
    (is ∙ ap (λ (t : Checked (List Spot)). v (operand_around ar t)) c.in-Broken.is))
    c.also_broken.ensures
