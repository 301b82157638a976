-- What is printed, from the left (IEEE 1800-2017, 21.2.1 and 21.3.3).
use Rattle.std.specs.Prelude.{Bool, true, false, List, [], ◌∷◌, ◌++◌, Option, Some, None, if◌then◌else◌}
use Rattle.sv_value.specs.declared.place.Place.{Place}
use Rattle.sv_value.specs.declared.operator.Piece.{Piece}
use Rattle.sv_value.specs.declared.operator.Piece.TheVariants as piece
use Rattle.sv_value.specs.declared.operator.Pad.{Pad}
use Rattle.sv_value.specs.declared.operator.Pad.TheVariants.{Full}
use Rattle.sv_value.specs.declared.operator.FormatField.{FormatField}
use Rattle.sv_value.specs.declared.operator.FormatField.TheVariants as field
use Rattle.sv_value.specs.declared.operator.Radix.TheVariants.{Dec}
use Rattle.sv_flat.specs.Expr as flat
use Rattle.sv_names.specs.declared.argument.Arg.{Arg}
use Rattle.sv_names.specs.declared.checked.Checked.{Checked}
use Rattle.sv_names.specs.declared.checked.Checked.TheVariants.{Good, Broken}
use Rattle.sv_names.specs.declared.hoisted.Hoisted.{Hoisted}
use Rattle.sv_names.specs.declared.ty.Ty.{Ty}
use Rattle.sv_names.specs.declared.ty.Ty.TheVariants.{Text as Text_type}
use Rattle.sv_names.specs.declared.typed.Typed.{Typed}
use Rattle.sv_names.specs.Arguments.{value_of_arg, values_stand, all_constant}
use Rattle.sv_names.specs.Checked.{◌▷◌, given, broken_at, ◌where_also◌}
use Rattle.sv_names.specs.Formats.{Printed, takes_text, field_value, and_then, filled, rest_after, by_itself, format_of_arg, text_printed, left_over}
use Rattle.sv_names.specs.Hoisted.{paired}
use Rattle.sv_names.specs.Types.{is_text, is_array, is_integral}
use Rattle.sv_names.specs.Values.{alone, value_typed}

-- ---- one value

-- the kind of values that a field takes
abbrev pub takes : FormatField → Ty → Bool
takes f t = if takes_text f then is_text t else is_integral t

-- a value alone
abbrev pub one_value : Typed → List (Hoisted flat.Expr)
one_value t = alone t ∷ []

-- a field with its value
abbrev pub one_field : FormatField → Pad → Typed → Printed
one_field f p t = (piece.Field f p ∷ [], one_value t)

-- a value that prints nothing
abbrev pub no_field : Typed → Printed
no_field t = ([], one_value t)

-- E42, E50: a value for a field
abbrev pub fitting : FormatField → Pad → Place → Typed → Checked Printed
fitting f p at t =
    if is_array t.ty then broken_at 42 t.at else (if takes f t.ty then Good (one_field f p t) else broken_at 50 at)

-- E42, E50: a value that no field takes
abbrev pub fitting_alone : Place → Typed → Checked Printed
fitting_alone at t =
    if is_array t.ty then broken_at 42 t.at
    else (if is_text t.ty then Good (one_field field.Text Full t)
    else (if is_integral t.ty then Good (one_field (field.Number Dec) Full t) else broken_at 50 at))

-- E42: a value that prints nothing
abbrev pub unprinted : Typed → Checked Printed
unprinted t = if is_array t.ty then broken_at 42 t.at else Good (no_field t)

abbrev pub arg_unprinted : Arg → Checked Printed
arg_unprinted a = value_of_arg a ▷ unprinted

-- ---- one part of a format

-- with the argument that it takes
abbrev pub part_filled : Place → Piece → List Arg → Checked Printed
part_filled at (piece.Plain w) args = Good (piece.Plain w ∷ [], [])
part_filled at (piece.Field f p) [] = broken_at 50 at
part_filled at (piece.Field f p) (a ∷ args) = field_value f p a

-- what it leaves
abbrev pub left_behind : {A : Type 0} → Piece → List A → List A
left_behind (piece.Plain w) xs = xs
left_behind (piece.Field f p) [] = []
left_behind (piece.Field f p) (x ∷ xs) = xs

-- ---- one argument that no field takes

-- a format, with the arguments that its fields take
abbrev pub format_shown : Place → List Arg → Option (List Piece) → Checked Printed
format_shown at args None = broken_at 50 at
format_shown at args (Some ss) = filled at ss args

abbrev pub shown_alone : Arg → List Arg → Option (Option (List Piece)) → Checked Printed
shown_alone a args None = by_itself a
shown_alone a args (Some f) = format_shown a.at args f

-- the arguments behind it
abbrev pub behind_format : List Arg → Option (List Piece) → List Arg
behind_format args None = args
behind_format args (Some ss) = rest_after ss args

abbrev pub behind_shown : List Arg → Option (Option (List Piece)) → List Arg
behind_shown args None = args
behind_shown args (Some f) = behind_format args f

-- ---- values in a row

-- a row, and one more
abbrev pub row_with : Hoisted (List flat.Expr) → Hoisted flat.Expr → Hoisted (List flat.Expr)
row_with row e = paired (λ xs x. xs ++ x ∷ []) row e

-- two rows
abbrev pub rows : Hoisted (List flat.Expr) → Hoisted (List flat.Expr) → Hoisted (List flat.Expr)
rows row more = paired (λ xs ys. xs ++ ys) row more

-- ---- strings

-- the string of a part, where a value is left for it
abbrev pub text_first : Piece → List flat.Expr → Option flat.Expr
text_first (piece.Plain w) es = Some (flat.Text w)
text_first (piece.Field f p) [] = None
text_first (piece.Field f p) (e ∷ es) = Some (flat.Printed f p e)

-- it and those behind it
abbrev pub with_text : Option flat.Expr → List flat.Expr → List flat.Expr
with_text None es = []
with_text (Some e) es = e ∷ es

-- strings before what stands to the right of them
abbrev pub texts_before : List flat.Expr → flat.Expr → flat.Expr
texts_before [] r = r
texts_before (e ∷ es) r = flat.Join e (texts_before es r)

-- ---- `$sformatf`

-- whether a value is constant
abbrev pub is_constant : Checked Typed → Bool
is_constant (Good t) = t.is_constant
is_constant (Broken f) = false

-- E50: its one format
abbrev pub known_format : Place → List Arg → Option (List Piece) → Checked (List Piece)
known_format at args None = broken_at 50 at where_also values_stand args
known_format at args (Some ss) = Good ss

abbrev pub format_given : Arg → List Arg → Option (Option (List Piece)) → Checked (List Piece)
format_given a args None = broken_at 50 a.at where_also values_stand (a ∷ args)
format_given a args (Some f) = known_format a.at args f

abbrev pub first_format : Place → List Arg → Checked (List Piece)
first_format at [] = broken_at 50 at
first_format at (a ∷ args) = format_given a args (format_of_arg a)

-- whether all arguments behind the first one are constant
abbrev pub rest_constant : List Arg → Bool
rest_constant [] = true
rest_constant (a ∷ args) = all_constant args

-- a format with all arguments behind it
abbrev pub all_filled : Place → List Piece → List Arg → Checked Printed
all_filled at ss args = and_then (filled at ss args) (left_over (rest_after ss args))

-- what is printed, as a string
abbrev pub string_of : Place → Bool → Printed → Typed
string_of at c p = value_typed Text_type at c (text_printed p)

-- what it gives, by its format
abbrev pub formatted : Place → (first : Place) → List Piece → List Arg → Checked Typed
formatted at place ss args = given (string_of at (all_constant args)) (all_filled place ss args)

abbrev pub made_of : Place → List Arg → List Piece → Checked Typed
made_of at [] ss = broken_at 50 at
made_of at (a ∷ args) ss = formatted at a.at ss args
