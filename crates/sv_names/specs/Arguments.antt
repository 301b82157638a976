-- Arguments of calls and parts of concatenations, once each is elaborated behind those before it (IEEE 1800-2017, 11.4.12 and 13.5).
use Rattle.std.specs.Prelude.{Bool, true, false, ◌&&◌, List, [], ◌∷◌, Option, None}
use Rattle.sv_value.specs.declared.place.Place.{Place}
use Rattle.sv_names.specs.declared.argument.Arg.{Arg}
use Rattle.sv_names.specs.declared.argument.Taken.{Taken}
use Rattle.sv_names.specs.declared.argument.Taken.TheVariants.{Value, Target}
use Rattle.sv_names.specs.declared.checked.Checked.{Checked}
use Rattle.sv_names.specs.declared.checked.Checked.TheVariants.{Good, Broken}
use Rattle.sv_names.specs.declared.typed.Typed.{Typed}
use Rattle.sv_names.specs.Checked.{◌▷◌, given, put_before, broken_at, rule, all}
use Rattle.sv_names.specs.Types.{is_array}
use Rattle.sv_names.specs.Operators.{Placed, joinable, first_is_text, joins}

-- an argument as a value; one that is taken as a target is none
abbrev pub value_of_taken : Place → Taken → Checked Typed
value_of_taken at (Value c) = c
value_of_taken at (Target c) = broken_at 31 at

abbrev pub value_of_arg : Arg → Checked Typed
value_of_arg a = value_of_taken a.at a.taken

-- what arguments break by themselves
abbrev pub values_stand : List Arg → Checked (Unit {0})
values_stand as' = all (λ a. value_of_arg a ▷ (λ t. rule 42 t.at (is_array t.ty))) as'

-- whether all arguments are constant
abbrev pub all_constant : List Arg → Bool
all_constant [] = true
all_constant (a ∷ as') = is_constant (value_of_arg a) && all_constant as'
  where
    is_constant : Checked Typed → Bool
    is_constant (Good t) = t.is_constant
    is_constant (Broken f) = false

-- E15: parts that can stand beside the first one
abbrev pub parts_beside : (first : Option Bool) → List Arg → Checked (List Placed)
parts_beside first [] = Good []
parts_beside first (a ∷ as') = put_before (given (λ t. (a.at, t)) (value_of_arg a ▷ joins first a.at)) (parts_beside first as')

-- whether the first part is a string, where it breaks no rule
abbrev pub first_kind : List Arg → Option Bool
first_kind [] = None
first_kind (a ∷ as') = first_is_text (value_of_arg a ▷ joinable a.at)

-- E15, E42: the parts of a concatenation
abbrev pub parts_of : List Arg → Checked (List Placed)
parts_of as' = parts_beside (first_kind as') as'
