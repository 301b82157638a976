-- Variables by their declarations.
use Rattle.std.proofs.Common.{rules, ◌≡◌, ℕ, Option, Some, None, refl}
use Rattle.sv_value.specs.declared.place.Place.{Place}
use Rattle.sv_names.specs.declared.named.Named.{Named}
use Rattle.sv_names.specs.declared.named.Named.TheVariants.{Variable, Local, Itself}
use Rattle.sv_names.specs.declared.named.ResultVariable.TheVariants as result_variable
use Rattle.sv_names.specs.declared.ty.Ty.{Ty}
use Rattle.sv_names.specs.declared.typed.Typed.{Typed}
use Rattle.sv_names.specs.Blocks.{variable_spot}
use Rattle.sv_names.specs.Named.{Around, at_level}
use Rattle.sv_names.specs.Things.{variable_typed}
use Rattle.sv_names.specs.Types.{Path}
use Rattle.sv_elab_write.specs.Variables.{spot_of}

-- what is neither a static variable nor one of an activation
pub no_variable : (ar : Around) (at : Place) (up place : ℕ) (n : Named) → ((p : Path) (t : Ty) → n ≡ Variable p t → ⊥)
    → ((u i : ℕ) (t : Ty) → n ≡ Local u i t → ⊥) → variable_typed ar at (at_level up place n) ≡ None
no_variable ar at up place (Variable p t) a b = absurd (a p t refl)
no_variable ar at up place (Local u i t) a b = absurd (b u i t refl)
no_variable ar at up place (Itself c (result_variable.Local u p t)) a b = refl
no_variable ar at up place (Itself c (result_variable.Object p t)) a b = refl
no_variable ar at up place n a b = refl

-- a declaration as a target, by the variable that it is
pub spot_by : (ar : Around) (at : Place) (n : Named) (t : Option Typed) → t ≡ variable_typed ar at n → variable_spot ar at n ≡ spot_of at t
spot_by ar at n None is = search rules
spot_by ar at n (Some t) is = search rules
