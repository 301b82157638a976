-- Operators between two references.
use Rattle.std.proofs.Common.{◌≡◌, List, Option, Some, None, refl, sym, subst}
use Rattle.std.specs.Prelude.{Result, ◌&&◌, ◌||◌, is_some}
use Rattle.sv_value.specs.declared.operator.BinOp.{BinOp}
use Rattle.sv_value.specs.declared.place.Place.{Place}
use Rattle.sv_names.specs.declared.around.ClassInfo.{ClassInfo}
use Rattle.sv_names.specs.declared.checked.Checked.{Checked}
use Rattle.sv_names.specs.declared.checked.Checked.TheVariants.{Good}
use Rattle.sv_names.specs.declared.refusal.Refusal.{Refusal}
use Rattle.sv_names.specs.declared.ty.Ty.{Ty}
use Rattle.sv_names.specs.declared.typed.Typed.{Typed}
use Rattle.sv_names.specs.Named.{Around}
use Rattle.sv_names.specs.Checked.{◌▷◌}
use Rattle.sv_names.specs.Given.{Gives}
use Rattle.sv_names.specs.Types.{is_integral, is_text, is_reference}
use Rattle.sv_names.specs.Values.{common_reference}
use Rattle.sv_names.specs.Operators.{is_equality, are_comparable, comparison_stands, comparable, binary_typed, choose_of}
use Rattle.sv_elab_operator.specs.Choices.{choose_by}

-- the common type, where there is one
by_common : (ks : List ClassInfo) (op : BinOp) (a b : Ty) (t : Option Ty) → common_reference ks a b ≡ t
    → are_comparable ks op a b ≡ ((is_integral a && is_integral b) || (is_text a && is_text b) || (is_equality op && is_reference a && is_reference b && is_some t))
by_common ks op a b None h = rw h refl
by_common ks op a b (Some t) h = rw h refl

-- the types that an operator compares
pub comparable_is : (ks : List ClassInfo) (op : BinOp) (a b : Ty)
    → are_comparable ks op a b ≡ ((is_integral a && is_integral b) || (is_text a && is_text b) || (is_equality op && is_reference a && is_reference b && is_some (common_reference ks a b)))
comparable_is ks op a b = by_common ks op a b (common_reference ks a b) refl

-- a comparison, by the classes that can be named
pub compared_by : (ar : Around) (ks : List ClassInfo) (op : BinOp) (pa pb : Place) (a b : Typed) (r : Result Typed Refusal) → ar.classes ≡ ks
    → Gives r (comparison_stands ks op pa pb a.ty b.ty ▷ (λ _. Good (binary_typed op pa a b))) → Gives r (comparable ar op pa pb a b)
compared_by ar ks op pa pb a b r h given_so =
    subst (λ (cs : List ClassInfo). Gives r (comparison_stands cs op pa pb a.ty b.ty ▷ (λ _. Good (binary_typed op pa a b)))) (sym h) given_so

-- a choice, by the classes that can be named
pub chosen_by : (ar : Around) (ks : List ClassInfo) (pc pa pb : Place) (x y z : Checked Typed) (r : Result Typed Refusal) → ar.classes ≡ ks
    → Gives r (choose_by ks pc pa pb x y z) → Gives r (choose_of ar pc pa pb x y z)
chosen_by ar ks pc pa pb x y z r h given_so = subst (λ (cs : List ClassInfo). Gives r (choose_by cs pc pa pb x y z)) (sym h) given_so
