use Rattle.std.proofs.Common.{sym, subst, ◌∙◌}
use Rattle.sv_flat.specs.Expr as flat
use Rattle.sv_names.specs.declared.checked.Checked.{Checked}
use Rattle.sv_names.specs.declared.hoisted.Hoisted.{Hoisted}
use Rattle.sv_names.specs.declared.ty.Ty.{Ty}
use Rattle.sv_names.specs.Given.{Gives}
use Rattle.sv_names.specs.Views.{around_in}
use Rattle.sv_elab_method.specs.Steps.{message_as}
use Rattle.sv_elab_method.proofs.MessageLaws.{any_is}
use Rattle.sv_elab_method.proofs.mailboxes.any_message.Goals as goal

pub returns-in_ok-ty-in-Ok : goal.returns-in_ok-ty-in-Ok
returns-in_ok-ty-in-Ok c =
    let ar = around_in c.args.around.now in
    subst (λ (m : Checked (Ty × Hoisted flat.Expr)). Gives c.message_as.result m)
    (any_is ar c.args.at c.args.value c.in-Ok.value c.in-Ok.ensures (sym c.is_message.ensures ∙ c.if-is_message.true))
    (subst (λ (t : Ty). Gives c.message_as.result (message_as ar t c.args.at c.in-Ok.value)) c.in_ok-ty-in-Ok.ensures c.message_as.ensures)
