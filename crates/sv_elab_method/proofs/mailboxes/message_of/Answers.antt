use Rattle.std.proofs.Common.{sym, subst}
use Rattle.sv_names.specs.declared.ty.Ty.{Ty}
use Rattle.sv_names.specs.Calls.{message_of}
use Rattle.sv_names.specs.Given.{Gives}
use Rattle.sv_names.specs.Views.{around_in}
use Rattle.sv_elab_method.specs.Steps.{message_as}
use Rattle.sv_elab_method.proofs.mailboxes.message_of.Goals as goal

pub returns-in_ok-ty-in-MailboxOf : goal.returns-in_ok-ty-in-MailboxOf
returns-in_ok-ty-in-MailboxOf c =
    let ar = around_in c.args.around.now in
    subst (λ (m : Ty). Gives c.message_as.result (message_of ar m c.args.at c.args.value)) (sym c.in-MailboxOf.is)
    (subst (λ (t : Ty). Gives c.message_as.result (message_as ar t c.args.at c.args.value)) c.in_ok-ty-in-MailboxOf.ensures c.message_as.ensures)
