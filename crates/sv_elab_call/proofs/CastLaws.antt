-- `$cast` in steps.
use Rattle.std.proofs.Common.{◌≡◌, Bool, List, [], ◌∷◌, length, Option, Some, None, refl, ap, arith}
use Rattle.std.specs.Prelude.{if◌then◌else◌}
use Rattle.sv_value.specs.declared.place.Place.{Place}
use Rattle.sv_flat.specs.declared.call.CallForm.{CallForm}
use Rattle.sv_names.specs.declared.argument.Arg.{Arg}
use Rattle.sv_names.specs.declared.checked.Checked.{Checked}
use Rattle.sv_names.specs.declared.checked.Checked.TheVariants.{Good, Broken}
use Rattle.sv_names.specs.declared.hoisted.Hoisted.{Hoisted}
use Rattle.sv_names.specs.declared.method.Called.TheVariants as called
use Rattle.sv_names.specs.declared.ty.Ty.{Ty}
use Rattle.sv_names.specs.declared.ty.Ty.TheVariants.{Class}
use Rattle.sv_names.specs.declared.typed.Typed.{Typed}
use Rattle.sv_names.specs.Arguments.{value_of_arg, values_stand}
use Rattle.sv_names.specs.Calls.{target_argument, castable, cast_called, call_stands}
use Rattle.sv_names.specs.Checked.{both, ◌▷◌, given, broken_at, ◌where_also◌}
use Rattle.sv_names.specs.Named.{Around}
use Rattle.sv_names.specs.Targets.{Spot}
use Rattle.sv_names.specs.Types.{Path, is_array, int_type}
use Rattle.sv_elab_call.specs.Casting.{class_of_type, cast_at, cast_of}
use Rattle.sv_elab_value.specs.Arguments.{first_two}

-- ---- what is cast

module _ (ar : Around) (answers : Bool) (a : Arg) (pb : Place) (x : Typed) where
  by_type : (p : Place) (v : Typed) (t : Ty)
      → cast_at ar answers a.at pb ((p, record v { ty = t }) ∷ []) x ≡ castable ar answers a pb ((p, record v { ty = t }) ∷ []) x
  by_type p v (Class k) = refl
  by_type p v t = refl

  pub cast_is : (ss : List Spot) → cast_at ar answers a.at pb ss x ≡ castable ar answers a pb ss x
  cast_is [] = refl
  cast_is (s ∷ []) = by_type s.0 s.1 s.1.ty
  cast_is (s ∷ r ∷ ss) = refl

-- the class of what is no variable of a class
pub class_other : (ar : Around) (at name : Place) (t : Ty) → ((p : Path) → t ≡ Class p → ⊥)
    → (if is_array t then broken_at 42 name else broken_at 16 at) ≡ class_of_type ar at name t
class_other ar at name (Class p) other = absurd (other p refl)
class_other ar at name t other = refl

-- ---- how many arguments

pub not_two : (ar : Around) (answers : Bool) (at : Place) (as' : List Arg) → (length as' ≡ 2 → ⊥)
    → broken_at 31 at where_also values_stand as' ≡ cast_of ar answers at as'
not_two ar answers at [] other = refl
not_two ar answers at (a ∷ []) other = refl
not_two ar answers at (a ∷ b ∷ []) other = absurd (other refl)
not_two ar answers at (a ∷ b ∷ c ∷ as') other = refl

pub two : (a b : Arg) (as' : List Arg) → length as' ≡ 2 → first_two as' ≡ Some (a, b) → as' ≡ a ∷ b ∷ []
two a b [] h g = absurd (cc g)
two a b (x ∷ []) h g = absurd (cc g)
two a b (x ∷ y ∷ []) h g = ap (λ (o : Option (Arg × Arg)). pair_of x y o) g
  where
    pair_of : Arg → Arg → Option (Arg × Arg) → List Arg
    pair_of x y None = x ∷ y ∷ []
    pair_of x y (Some p) = p.0 ∷ p.1 ∷ []
two a b (x ∷ y ∷ z ∷ as') h g = absurd (omega arith)

two_are : (ar : Around) (answers : Bool) (a b : Arg) (c : Checked (List Spot × Typed))
    → (c ▷ (λ p. cast_at ar answers a.at b.at p.0 p.1)) ≡ (c ▷ (λ p. castable ar answers a b.at p.0 p.1))
two_are ar answers a b (Good p) = cast_is ar answers a b.at p.1 p.0
two_are ar answers a b (Broken f) = refl

-- a cast, and where it stands
pub cast_called_is : (ar : Around) (answers : Bool) (at : Place) (as' : List Arg)
    → cast_of ar answers at as' where_also call_stands ar at ≡ cast_called ar answers at as'
cast_called_is ar answers at [] = refl
cast_called_is ar answers at (a ∷ []) = refl
cast_called_is ar answers at (a ∷ b ∷ []) =
    ap (λ (c : Checked (Hoisted CallForm)). given (λ f. called.Call f int_type) c where_also call_stands ar at)
    (two_are ar answers a b (both (target_argument a) (value_of_arg b)))
cast_called_is ar answers at (a ∷ b ∷ c ∷ as') = refl
