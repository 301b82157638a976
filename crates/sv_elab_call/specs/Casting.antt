-- `$cast` in steps (IEEE 1800-2017, 8.16).
use Rattle.std.specs.Prelude.{Bool, ◌||◌, List, [], ◌∷◌, if◌then◌else◌}
use Rattle.sv_value.specs.declared.number.ClassId.{ClassId}
use Rattle.sv_value.specs.declared.place.Place.{Place}
use Rattle.sv_flat.specs.declared.call.CallForm.{CallForm}
use Rattle.sv_flat.specs.declared.call.CallForm.TheVariants as call
use Rattle.sv_names.specs.declared.argument.Arg.{Arg}
use Rattle.sv_names.specs.declared.checked.Checked.{Checked}
use Rattle.sv_names.specs.declared.checked.Checked.TheVariants.{Good}
use Rattle.sv_names.specs.declared.hoisted.Hoisted.{Hoisted}
use Rattle.sv_names.specs.declared.method.Called.{Called}
use Rattle.sv_names.specs.declared.method.Called.TheVariants as called
use Rattle.sv_names.specs.declared.ty.Ty.{Ty}
use Rattle.sv_names.specs.declared.ty.Ty.TheVariants.{Class}
use Rattle.sv_names.specs.declared.typed.Typed.{Typed}
use Rattle.sv_names.specs.Arguments.{value_of_arg, values_stand}
use Rattle.sv_names.specs.Calls.{target_argument}
use Rattle.sv_names.specs.Checked.{both, ◌▷◌, given, broken_at, ◌where_also◌}
use Rattle.sv_names.specs.Hoisted.{paired}
use Rattle.sv_names.specs.Named.{Around}
use Rattle.sv_names.specs.Targets.{Spot, lvalues}
use Rattle.sv_names.specs.Types.{is_array, is_class, is_null, int_type}
use Rattle.sv_names.specs.Values.{one_item}

-- a cast of a reference to a class
abbrev pub cast_form : Around → Bool → ClassId → List Spot → Typed → Hoisted CallForm
cast_form ar answers k ss x = paired (λ ls v. call.Cast ls v k answers) (lvalues ar ss) x.code

-- E16, E42: what is cast is a reference
abbrev pub cast_to_class : Around → Bool → Place → List Spot → Typed → ClassId → Checked (Hoisted CallForm)
cast_to_class ar answers pb ss x k =
    one_item x ▷ (λ y. if is_class y.ty || is_null y.ty then Good (cast_form ar answers k ss y) else broken_at 16 pb)

-- E16, E42: the class of a variable
abbrev pub class_of_type : Around → Place → Place → Ty → Checked ClassId
class_of_type ar at name (Class p) = Good (ar.numbers.class p)
class_of_type ar at name t = if is_array t then broken_at 42 name else broken_at 16 at

-- E16, E42: the class of a target
abbrev pub class_of_target : Around → Place → List Spot → Checked ClassId
class_of_target ar at (s ∷ []) = class_of_type ar at s.1.at s.1.ty
class_of_target ar at ss = broken_at 16 at

-- a cast to a target at a place
abbrev pub cast_at : Around → Bool → Place → Place → List Spot → Typed → Checked (Hoisted CallForm)
cast_at ar answers at pb ss x = class_of_target ar at ss ▷ cast_to_class ar answers pb ss x

-- a cast of two arguments
abbrev pub cast_of_two : Around → Bool → Arg → Arg → Checked (Hoisted CallForm)
cast_of_two ar answers a b = both (target_argument a) (value_of_arg b) ▷ (λ p. cast_at ar answers a.at b.at p.0 p.1)

-- E31: two arguments
abbrev pub cast_of : Around → Bool → Place → List Arg → Checked Called
cast_of ar answers at (a ∷ b ∷ []) = given (λ f. called.Call f int_type) (cast_of_two ar answers a b)
cast_of ar answers at as' = broken_at 31 at where_also values_stand as'
