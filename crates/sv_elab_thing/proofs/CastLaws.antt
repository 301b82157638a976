-- Casts to types, and to names that are no types.
use Rattle.std.proofs.Common.{◌≡◌, ℕ, refl}
use Rattle.sv_value.specs.declared.place.Place.{Place}
use Rattle.sv_names.specs.declared.checked.Checked.{Checked}
use Rattle.sv_names.specs.declared.named.Named.{Named}
use Rattle.sv_names.specs.declared.named.Named.TheVariants.{TypeName, ClassName, Itself}
use Rattle.sv_names.specs.declared.named.ResultVariable.TheVariants as result_variable
use Rattle.sv_names.specs.declared.ty.Ty.{Ty}
use Rattle.sv_names.specs.declared.ty.Ty.TheVariants as ty
use Rattle.sv_names.specs.declared.typed.Typed.{Typed}
use Rattle.sv_names.specs.Expressions.{cast_by_name}
use Rattle.sv_names.specs.Named.{Around, at_level}
use Rattle.sv_names.specs.Operators.{cast_to}
use Rattle.sv_names.specs.Types.{Path}
use Rattle.sv_elab_thing.specs.Casts.{cast_as, sized_by, width_named}

-- a cast to a type, by whether it is a number
pub cast_is : (ar : Around) (to : Ty) (pe at : Place) (t : Typed) → cast_as ar to pe at t ≡ cast_to ar to pe at t
cast_is ar (ty.Vector i b w) pe at t = refl
cast_is ar (ty.Enum s e i b w) pe at t = refl
cast_is ar to pe at t = refl

-- a name that is no type tells a width
pub other_named : (ar : Around) (pe pn at : Place) (up place : ℕ) (n : Named) (e : Checked Typed) → ((t : Ty) → n ≡ TypeName t → ⊥) → ((k : Path) → n ≡ ClassName k → ⊥)
    → sized_by pe at (width_named ar pn (at_level up place n)) e ≡ cast_by_name ar pe pn at (at_level up place n) e
other_named ar pe pn at up place (TypeName t) e no_type no_class = absurd (no_type t refl)
other_named ar pe pn at up place (ClassName k) e no_type no_class = absurd (no_class k refl)
other_named ar pe pn at up place (Itself c (result_variable.Object p t)) e no_type no_class = refl
other_named ar pe pn at up place (Itself c (result_variable.Local u p t)) e no_type no_class = refl
other_named ar pe pn at up place n e no_type no_class = refl
