-- Messages of mailboxes, by their types.
use Rattle.std.proofs.Common.{◌≡◌, true, refl, ap, sym, ◌∙◌}
use Rattle.std.proofs.lemmas.Bool.{cond-true}
use Rattle.sv_value.specs.declared.place.Place.{Place}
use Rattle.sv_names.specs.declared.checked.Checked.{Checked}
use Rattle.sv_names.specs.declared.checked.Checked.TheVariants.{Good}
use Rattle.sv_names.specs.declared.element.Element.{Element}
use Rattle.sv_names.specs.declared.ty.Ty.{Ty}
use Rattle.sv_names.specs.declared.ty.Ty.TheVariants.{MailboxOf}
use Rattle.sv_names.specs.declared.typed.Typed.{Typed}
use Rattle.sv_names.specs.Calls.{is_message, message_of, may_receive}
use Rattle.sv_names.specs.Checked.{◌▷◌, broken_at, fine}
use Rattle.sv_names.specs.Named.{Around}
use Rattle.sv_names.specs.Values.{one_item}
use Rattle.sv_elab_method.specs.Steps.{message_as, item_message, any_message}

-- such a mailbox takes messages of any type
pub message_other : (ar : Around) (m : Ty) (at : Place) (x : Typed) → ((t : Element) → m ≡ MailboxOf t → ⊥) → message_of ar m at x ≡ any_message ar at x
message_other ar (MailboxOf t) at x other = absurd (other t refl)
message_other ar m at x other = refl

-- and a variable of any type gets one
pub receive_other : (m : Ty) (at : Place) (v : Typed) → ((t : Element) → m ≡ MailboxOf t → ⊥) → may_receive m at v ≡ fine
receive_other (MailboxOf t) at v other = absurd (other t refl)
receive_other m at v other = refl

-- a message of any type has its own
pub any_is : (ar : Around) (at : Place) (x y : Typed) → one_item x ≡ Good y → is_message y.ty ≡ true → message_as ar y.ty at y ≡ any_message ar at x
any_is ar at x y is h =
    sym (ap (λ (c : Checked Typed). c ▷ item_message ar at) is ∙ cond-true (is_message y.ty) (message_as ar y.ty at y) (broken_at 16 at) h)
