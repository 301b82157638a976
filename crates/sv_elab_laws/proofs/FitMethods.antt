-- The methods of the language give types of their own, or those of what they are called for.
use Rattle.std.proofs.Common.{◌≡◌, ℕ, false, List, [], ◌∷◌, Option, refl}
use Rattle.sv_names.specs.declared.method.Action.{Action}
use Rattle.sv_names.specs.declared.method.Action.TheVariants.{Triggered}
use Rattle.sv_names.specs.declared.method.Method.{Method}
use Rattle.sv_names.specs.declared.method.Outcome.{Outcome}
use Rattle.sv_names.specs.declared.ty.Ty.{Ty}
use Rattle.sv_names.specs.declared.ty.Ty.TheVariants.{Enum, Text, Event, Semaphore, Mailbox, MailboxOf, Queue, Dynamic, Assoc}
use Rattle.sv_names.specs.Methods.{Table, in_table, methods_of, method_of, type_given}
use Rattle.sv_names.specs.Types.{plain_vector, same_bytes}
use Rattle.sv_elab_laws.specs.Fits.{Enums, IsType}
use Rattle.sv_elab_laws.proofs.Kept.{KeepsSome, if_each}
use Rattle.sv_elab_laws.proofs.FitTypes.{item_type}

-- what `triggered` gives is one bit
abbrev pub Triggers : Action → Outcome → Type 0
Triggers Triggered g = type_given g ≡ plain_vector 1 false false
Triggers a g = Unit {0}

-- a method
abbrev pub MethodFits : Enums → Method → Type 0
MethodFits enums m = IsType enums (type_given m.gives) × Triggers m.action m.gives

module _ (enums : Enums) where
  abbrev AllFit : Table → Type 0
  AllFit [] = Unit {0}
  AllFit (e ∷ es) = MethodFits enums e.1 × AllFit es

  table_fits : (x : List ℕ) (es : Table) → AllFit es → KeepsSome (MethodFits enums) (in_table x es)
  table_fits x [] h = tt
  table_fits x (e ∷ es) h = if_each (λ (o : Option Method). KeepsSome (MethodFits enums) o) (same_bytes x e.0) _ _ h.0 (table_fits x es h.1)

  all_fit : (t : Ty) → IsType enums t → AllFit (methods_of t)
  all_fit (Queue t) h =
      ((tt, tt), ((tt, tt), ((item_type enums t h, tt), ((item_type enums t h, tt), ((tt, tt), ((tt, tt), ((tt, tt), tt)))))))
  all_fit (Dynamic t) h = ((tt, tt), ((tt, tt), tt))
  all_fit (Assoc k t) h = ((tt, tt), ((tt, tt), ((tt, tt), ((tt, tt), ((tt, tt), ((tt, tt), ((tt, tt), tt)))))))
  all_fit Mailbox h = ((tt, tt), ((tt, tt), ((tt, tt), ((tt, tt), ((tt, tt), ((tt, tt), ((tt, tt), tt)))))))
  all_fit (MailboxOf t) h = ((tt, tt), ((tt, tt), ((tt, tt), ((tt, tt), ((tt, tt), ((tt, tt), ((tt, tt), tt)))))))
  all_fit Semaphore h = ((tt, tt), ((tt, tt), ((tt, tt), tt)))
  all_fit (Enum s at t b w) h = ((tt, tt), tt)
  all_fit Text h = ((tt, tt), tt)
  all_fit Event h = ((tt, refl), tt)
  all_fit t h = tt

  pub method_fits : (t : Ty) (x : List ℕ) → IsType enums t → KeepsSome (MethodFits enums) (method_of t x)
  method_fits t x h = table_fits x (methods_of t) (all_fit t h)
