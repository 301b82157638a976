-- Constructors by what a class declares as `new`.
use Rattle.std.proofs.Common.{◌≡◌, ℕ, List, [], Option, Some, None, option_map, refl, ap}
use Rattle.sv_value.specs.declared.place.Place.{Place}
use Rattle.sv_names.specs.declared.argument.Arg.{Arg}
use Rattle.sv_names.specs.declared.checked.Checked.{Checked}
use Rattle.sv_names.specs.declared.checked.Checked.TheVariants.{Good, Broken}
use Rattle.sv_names.specs.declared.checked.Fault.{Fault}
use Rattle.sv_names.specs.declared.named.Callee.{Callee}
use Rattle.sv_names.specs.declared.ty.Ty.{Ty}
use Rattle.sv_names.specs.declared.ty.Ty.TheVariants.{Class, Mailbox, MailboxOf, Semaphore}
use Rattle.sv_names.specs.Targets.{Spot}
use Rattle.sv_elab_assign.specs.Making.{nothing_made}
use Rattle.sv_names.specs.declared.named.Named.{Named}
use Rattle.sv_names.specs.declared.named.Named.TheVariants.{Subroutine, Itself}
use Rattle.sv_names.specs.declared.named.ResultVariable.TheVariants as result_variable
use Rattle.sv_names.specs.Assignments.{with_constructor, outputs_of_constructor, outputs_of_new, made}
use Rattle.sv_names.specs.Calls.{arguments}
use Rattle.sv_names.specs.Named.{Around, Found, placed_at, value_found}
use Rattle.sv_names.specs.Types.{Path}
use Rattle.sv_names.specs.Views.{found_in}
use Rattle.sv_names.specs.declared.scope.Found as scope

-- what is no subroutine takes no argument
pub no_constructor : (ar : Around) (at : Place) (k : Path) (as' : List Arg) (up place : ℕ) (n : Checked Named)
    → ((c : Callee) → n ≡ Good (Subroutine c) → ⊥) → ((f : Fault) → n ≡ Broken f → ⊥)
    → with_constructor ar at k as' (Some (placed_at up place n)) ≡ arguments ar at [] as'
no_constructor ar at k as' up place (Good (Subroutine c)) a b = absurd (a c refl)
no_constructor ar at k as' up place (Broken f) a b = absurd (b f refl)
no_constructor ar at k as' up place (Good (Itself c (result_variable.Local u p t))) a b = refl
no_constructor ar at k as' up place (Good (Itself c (result_variable.Object p t))) a b = refl
no_constructor ar at k as' up place (Good n) a b = refl

-- nor has it outputs
pub no_outputs : (up place : ℕ) (n : Checked Named) → ((c : Callee) → n ≡ Good (Subroutine c) → ⊥)
    → outputs_of_constructor (Some (placed_at up place n)) ≡ []
no_outputs up place (Good (Subroutine c)) a = absurd (a c refl)
no_outputs up place (Broken f) a = refl
no_outputs up place (Good (Itself c (result_variable.Local u p t))) a = refl
no_outputs up place (Good (Itself c (result_variable.Object p t))) a = refl
no_outputs up place (Good n) a = refl

-- what a declaration that is found stands for
pub found_value : (x : Option scope.Found) (y : Option Found) → option_map found_in x ≡ y
    → option_map (λ f. value_found (found_in f)) x ≡ option_map value_found y
found_value None y is = ap (option_map value_found) is
found_value (Some f) y is = ap (option_map value_found) is

-- ---- by the type of the target

-- what is no class has no outputs
pub outputs_other : (ar : Around) (t : Ty) → ((p : Path) → t ≡ Class p → ⊥) → outputs_of_new ar t ≡ []
outputs_other ar (Class p) other = absurd (other p refl)
outputs_other ar t other = refl

-- nothing is made for what is none of these
pub made_other : (ar : Around) (at : Place) (ss : List Spot) (as' : List Arg) (t : Ty) → ((p : Path) → t ≡ Class p → ⊥) → (t ≡ Mailbox → ⊥)
    → ((e : _) → t ≡ MailboxOf e → ⊥) → (t ≡ Semaphore → ⊥) → nothing_made at ss as' ≡ made ar at ss as' t
made_other ar at ss as' (Class p) a b c d = absurd (a p refl)
made_other ar at ss as' Mailbox a b c d = absurd (b refl)
made_other ar at ss as' (MailboxOf e) a b c d = absurd (c e refl)
made_other ar at ss as' Semaphore a b c d = absurd (d refl)
made_other ar at ss as' t a b c d = refl
