-- Operators, concatenations and casts on typed operands (IEEE 1800-2017, 11.4 and 6.24).
use Rattle.std.specs.Prelude.{ℕ, ◌+◌, ◌-◌, ◌*◌, ◌/◌, ◌^◌, Bool, true, false, not, ◌&&◌, ◌||◌, List, [], ◌∷◌, length, Option, Some, None, if◌then◌else◌, nat_le, ◌==◌, max, ℤ, negsuc}
use Rattle.std.specs.List.{list_any}
use Rattle.sv_value.specs.declared.place.Place.{Place}
use Rattle.sv_value.specs.declared.val.Integral.{Integral}
use Rattle.sv_value.specs.declared.operator.UnOp.{UnOp}
use Rattle.sv_value.specs.declared.operator.UnOp.TheVariants as un
use Rattle.sv_value.specs.declared.operator.BinOp.{BinOp}
use Rattle.sv_value.specs.declared.operator.BinOp.TheVariants as bin
use Rattle.sv_value.specs.Vector.{vector, symbols_of, is_known}
use Rattle.sv_flat.specs.declared.design.Scale.{Scale}
use Rattle.sv_flat.specs.Expr as flat
use Rattle.sv_flat.specs.Eval.{known_index, binary_width, binary_sign, operands_of, is_in_context}
use Rattle.sv_tree.specs.declared.word.UnaryWord.{UnaryWord}
use Rattle.sv_tree.specs.declared.word.UnaryWord.TheVariants as unary
use Rattle.sv_tree.specs.declared.word.BinaryWord.{BinaryWord}
use Rattle.sv_tree.specs.declared.word.BinaryWord.TheVariants as binary
use Rattle.sv_tree.specs.declared.word.VectorWord.{VectorWord}
use Rattle.sv_tree.specs.declared.word.VectorWord.TheVariants as word
use Rattle.sv_tree.specs.declared.word.AtomWord.{AtomWord}
use Rattle.sv_tree.specs.declared.word.AtomWord.TheVariants as atom
use Rattle.sv_names.specs.declared.operator.Operands.{Operands}
use Rattle.sv_names.specs.declared.operator.Operands.TheVariants.{Numbers, Comparison, Power}
use Rattle.sv_names.specs.declared.around.ClassInfo.{ClassInfo}
use Rattle.sv_names.specs.declared.checked.Checked.{Checked}
use Rattle.sv_names.specs.declared.checked.Checked.TheVariants.{Good, Broken}
use Rattle.sv_names.specs.declared.ty.Ty.{Ty}
use Rattle.sv_names.specs.declared.ty.Ty.TheVariants.{Vector as Bit_vector, Enum, Text}
use Rattle.sv_names.specs.declared.typed.Typed.{Typed}
use Rattle.sv_names.specs.Checked.{both, ◌▷◌, given, broken_at, rule, fine, unless}
use Rattle.sv_names.specs.Types.{is_integral, is_text, is_array, is_reference, same_flag, same_enum, integral, width_of_type, sign_of_type, is_four_state, plain_vector, selectable}
use Rattle.sv_names.specs.Hoisted.{pure, mapped, paired, three}
use Rattle.sv_digits.specs.declared.literal.Number.{Number}
use Rattle.sv_names.specs.Literals.{number_of, fill_of_number, femtoseconds}
use Rattle.sv_names.specs.Named.{Around}
use Rattle.sv_names.specs.Values.{value_typed, constant_vector, one_item, number_operand, not_too_wide, common_reference, widened, assigned}

-- ---- literals

-- `'0` and its kin fill their context, and have no bits to select
abbrev pub fills_alone : List ℕ → Bool
fills_alone (c ∷ d ∷ []) = c == 39
fills_alone cs = false

-- whether a number has a base: a quote, behind which more than a filling digit stands
abbrev pub has_base : List ℕ → Bool
has_base text = list_any (λ c. c == 39) text && not (fills_alone text)

-- a literal is four-state where it has a base, or is x or z
abbrev pub literal_type : List ℕ → Number → Ty
literal_type text n =
    let four : Bool = has_base text || not (is_known n.bits.symbols) in
    if fills_alone text then plain_vector 1 false four else selectable (length n.bits.symbols) n.bits.signed four

-- a number as it is written
abbrev pub literal_typed : Place → List ℕ → Typed
literal_typed at text =
    value_typed (literal_type text (number_of text)) at true
    (pure (flat.Literal (number_of text).bits (fill_of_number (number_of text))))

-- E52: a time literal is a whole number of ticks, fewer than 2^63 (3.14)
abbrev pub ticks_in : Scale → Place → List ℕ → Checked ℕ
ticks_in s at text =
    let n : ℕ = femtoseconds text / 10 ^ s.precision in
    if not (n * 10 ^ s.precision == femtoseconds text) || nat_le (2 ^ 63) n then broken_at 52 at else Good n

-- ticks in units, half upward
abbrev pub rounded : ℕ → ℕ → ℕ
rounded n unit = (2 * n + unit) / (2 * unit)

-- a time literal has its value in units
abbrev pub time_typed : Scale → Place → ℕ → Typed
time_typed s at n =
    value_typed (selectable 64 false true) at true
    (pure (flat.Literal (vector false (symbols_of 64 (rounded n (10 ^ (s.unit - s.precision))) 0)) None))

-- ---- operators on one operand

-- the operator of a word
abbrev pub unary_op : UnaryWord → UnOp
unary_op unary.Plus = un.Plus
unary_op unary.Minus = un.Minus
unary_op unary.Not = un.Not
unary_op unary.Invert = un.Invert
unary_op unary.And = un.ReduceAnd
unary_op unary.Nand = un.ReduceNand
unary_op unary.Or = un.ReduceOr
unary_op unary.Nor = un.ReduceNor
unary_op unary.Xor = un.ReduceXor
unary_op unary.Xnor = un.ReduceXnor

-- widths and signs by Table 11-21, as a run has them
abbrev pub unary_type : UnOp → Ty → Ty
unary_type op t =
    if is_in_context op then plain_vector (width_of_type t) (sign_of_type t) (is_four_state t) else plain_vector 1 false true

-- an operator on one operand
abbrev pub unary_typed : Place → UnaryWord → Typed → Typed
unary_typed at op a = value_typed (unary_type (unary_op op) a.ty) at a.is_constant (mapped (flat.Unary (unary_op op)) a.code)

-- ---- operators on two operands

-- the operator of a word
abbrev pub kind_of : BinaryWord → Operands
kind_of binary.Power = Power
kind_of binary.Multiply = Numbers bin.Mul
kind_of binary.Divide = Numbers bin.Div
kind_of binary.Remainder = Numbers bin.Rem
kind_of binary.Plus = Numbers bin.Add
kind_of binary.Minus = Numbers bin.Sub
kind_of binary.ShiftLeft = Numbers bin.ShiftLeft
kind_of binary.ShiftRight = Numbers bin.ShiftRight
kind_of binary.ShiftLeftSigned = Numbers bin.ShiftLeft
kind_of binary.ShiftRightSigned = Numbers bin.ShiftRightSigned
kind_of binary.Less = Comparison bin.Less
kind_of binary.LessEqual = Comparison bin.LessEqual
kind_of binary.Greater = Comparison bin.Greater
kind_of binary.GreaterEqual = Comparison bin.GreaterEqual
kind_of binary.Equal = Comparison bin.Equal
kind_of binary.NotEqual = Comparison bin.NotEqual
kind_of binary.CaseEqual = Comparison bin.CaseEqual
kind_of binary.CaseNotEqual = Comparison bin.CaseNotEqual
kind_of binary.And = Numbers bin.And
kind_of binary.Xor = Numbers bin.Xor
kind_of binary.Xnor = Numbers bin.Xnor
kind_of binary.Or = Numbers bin.Or
kind_of binary.LogicalAnd = Numbers bin.LogicalAnd
kind_of binary.LogicalOr = Numbers bin.LogicalOr

-- whether calls may not stand in its right operand
abbrev pub decides_early : BinaryWord → Bool
decides_early binary.LogicalAnd = true
decides_early binary.LogicalOr = true
decides_early op = false

-- the type of a result, by Table 11-21
abbrev pub binary_type : BinOp → Ty → Ty → Ty
binary_type op a b =
    plain_vector (binary_width (operands_of op) (width_of_type a) (width_of_type b))
    (binary_sign (operands_of op) (sign_of_type a) (sign_of_type b)) (is_four_state a || is_four_state b)

-- an operator on two operands
abbrev pub binary_typed : BinOp → Place → Typed → Typed → Typed
binary_typed op at a b =
    value_typed (binary_type op a.ty b.ty) at (a.is_constant && b.is_constant) (paired (flat.Binary op) a.code b.code)

-- `==` and its kin
abbrev pub is_equality : BinOp → Bool
is_equality bin.Equal = true
is_equality bin.NotEqual = true
is_equality bin.CaseEqual = true
is_equality bin.CaseNotEqual = true
is_equality op = false

-- whether an operator compares two types
abbrev pub are_comparable : List ClassInfo → BinOp → Ty → Ty → Bool
are_comparable ks op a b =
    (is_integral a && is_integral b) || (is_text a && is_text b)
    || (is_equality op && is_reference a && is_reference b && is_there (common_reference ks a b))
  where
    is_there : Option Ty → Bool
    is_there None = false
    is_there (Some t) = true

-- E15: at the first operand where the operator does not take its type at all
abbrev pub comparison_stands : List ClassInfo → BinOp → Place → Place → Ty → Ty → Checked (Unit {0})
comparison_stands ks op pa pb a b =
    if are_comparable ks op a b then fine
    else (if is_integral a || is_text a || (is_equality op && is_reference a) then broken_at 15 pb else broken_at 15 pa)

-- a comparison
abbrev pub comparable : Around → BinOp → Place → Place → Typed → Typed → Checked Typed
comparable ar op pa pb a b = comparison_stands ar.classes op pa pb a.ty b.ty ▷ (λ _. Good (binary_typed op pa a b))

-- a negative number
abbrev pub is_negative : Option ℤ → Bool
is_negative (Some (negsuc n)) = true
is_negative _ = false

-- E53: `**` stands between constants, and its exponent is not negative
abbrev pub power_stands : Place → Typed → Typed → Checked (Unit {0})
power_stands at a b = rule 53 at (not (a.is_constant && b.is_constant) || is_negative (known_index (constant_vector b)))

-- a power of constants
abbrev pub power_typed : Place → Place → Typed → Typed → Checked Typed
power_typed at pa a b = power_stands at a b ▷ (λ _. Good (binary_typed bin.Power pa a b))

-- an operator with its operands (11.3 and 11.4)
abbrev pub binary_of : Around → Operands → Place → Place → Place → Checked Typed → Checked Typed → Checked Typed
binary_of ar (Numbers op) at pa pb a b =
    given (λ p. binary_typed op pa p.0 p.1) (both (a ▷ number_operand pa) (b ▷ number_operand pb))
binary_of ar (Comparison op) at pa pb a b = both (a ▷ one_item) (b ▷ one_item) ▷ (λ p. comparable ar op pa pb p.0 p.1)
binary_of ar Power at pa pb a b =
    both (a ▷ number_operand pa) (b ▷ number_operand pb) ▷ (λ p. power_typed at pa p.0 p.1)

-- ---- `?:`

-- `?:` of a type
abbrev pub choose_typed : Place → Typed → Typed → Typed → Ty → Typed
choose_typed at c a b t =
    value_typed t at (c.is_constant && a.is_constant && b.is_constant) (three flat.Choose c.code a.code b.code)

-- the type of two numbers
abbrev pub chosen_type : Ty → Ty → Ty → Ty
chosen_type c a b =
    plain_vector (max (width_of_type a) (width_of_type b)) (sign_of_type a && sign_of_type b)
    (is_four_state a || is_four_state b || is_four_state c)

-- E15: the type of two branches that fit each other
abbrev pub branch_type : List ClassInfo → Place → Place → Ty → Ty → Ty → Checked Ty
branch_type ks pa pb c a b =
    if same_enum a b then Good a
    else (if is_integral a && is_integral b then Good (chosen_type c a b)
    else (if is_text a && is_text b then Good Text
    else (if is_reference a && is_reference b then unless 15 pb (common_reference ks a b)
    else (if is_integral a || is_text a || is_reference a then broken_at 15 pb else broken_at 15 pa))))

-- a choice of two branches
abbrev pub branches : Around → Place → Place → Place → Typed → Typed → Typed → Checked Typed
branches ar at pa pb c a b = given (choose_typed at c a b) (branch_type ar.classes pa pb c.ty a.ty b.ty)

-- `?:` with its operands (11.4.11)
abbrev pub choose_of : Around → Place → Place → Place → Checked Typed → Checked Typed → Checked Typed → Checked Typed
choose_of ar pc pa pb c a b =
    both (c ▷ number_operand pc) (both (a ▷ one_item) (b ▷ one_item)) ▷ (λ p. branches ar pc pa pb p.0 p.1.0 p.1.1)

-- ---- concatenations

-- a part of a concatenation, where it stands
abbrev pub Placed : Type 0
Placed = Place × Typed

-- E15, E42: a part is a number or a string
abbrev pub joinable : Place → Typed → Checked Typed
joinable at t =
    if is_array t.ty then broken_at 42 t.at
    else (if is_integral t.ty || is_text t.ty then Good t else broken_at 15 at)

-- whether a part is a string, where it breaks no rule
abbrev pub first_is_text : Checked Typed → Option Bool
first_is_text (Good t) = Some (is_text t.ty)
first_is_text (Broken f) = None

-- E15: strings alone, or numbers alone
abbrev pub alike : (texts : Bool) → Place → Typed → Checked Typed
alike b at t = if same_flag b (is_text t.ty) then Good t else broken_at 15 at

-- E15: the first part decides, where it breaks no rule
abbrev pub joins : (first : Option Bool) → Place → Typed → Checked Typed
joins None at t = joinable at t
joins (Some b) at t = joinable at t ▷ alike b at

-- parts from the left
abbrev pub joined : Typed → List Placed → Typed
joined a [] = a
joined a (p ∷ ps) =
    let r : Typed = joined p.1 ps in
    value_typed
    (if is_text a.ty then Text
    else plain_vector (width_of_type a.ty + width_of_type r.ty) false (is_four_state a.ty || is_four_state r.ty))
    a.at (a.is_constant && r.is_constant) (paired flat.Join a.code r.code)

-- one part alone is unsigned too, and keeps its x and z
abbrev pub unsigned_part : Typed → Typed
unsigned_part a =
    if is_text a.ty then a
    else value_typed (plain_vector (width_of_type a.ty) false (is_four_state a.ty)) a.at a.is_constant
    (mapped (flat.Convert (integral (width_of_type a.ty) false true)) a.code)

-- one part, or several
abbrev pub join_all : Placed → List Placed → Typed
join_all p [] = unsigned_part p.1
join_all p (q ∷ qs) = joined p.1 (q ∷ qs)

-- a replication
abbrev pub repeated : ℕ → Typed → Typed
repeated n a =
    value_typed (if is_text a.ty then Text else plain_vector (n * width_of_type a.ty) false (is_four_state a.ty))
    a.at a.is_constant (mapped (flat.Repeat n) a.code)

-- how many bits the parts of a concatenation have
abbrev pub widths_of : List Placed → ℕ
widths_of [] = 0
widths_of (p ∷ ps) = width_of_type p.1.ty + widths_of ps

-- E13, E15: a concatenation (11.4.12)
abbrev pub join_of : Place → List Placed → Checked Typed
join_of at [] = broken_at 15 at
join_of at (p ∷ ps) = not_too_wide at (widths_of (p ∷ ps)) ▷ (λ _. Good (join_all p ps))

-- E13: a replication of a concatenation (11.4.12.1)
abbrev pub repeat_of : Place → Checked ℕ → Checked Typed → Checked Typed
repeat_of at n a =
    both n a ▷ (λ p. not_too_wide at (p.0 * width_of_type p.1.ty) ▷ (λ _. Good (repeated p.0 p.1)))

-- ---- casts

-- a number as one of an integral type, extended as by an assignment to it
abbrev pub number_as : Ty → Integral → Place → Typed → Typed
number_as t i pe x = value_typed t pe x.is_constant (mapped (flat.Convert i) (widened (width_of_type t) x))

-- E16: a cast to an integral type
abbrev pub number_cast : Ty → Integral → Place → Place → Typed → Checked Typed
number_cast t i pe at e =
    one_item e ▷ (λ x. if is_integral x.ty then Good (number_as t i pe x) else broken_at 16 at)

-- a cast to a type (6.24.1)
abbrev pub cast_to : Around → Ty → Place → Place → Typed → Checked Typed
cast_to ar (Bit_vector i b w) pe at t = number_cast (Bit_vector i b w) i pe at t
cast_to ar (Enum s e i b w) pe at t = number_cast (Enum s e i b w) i pe at t
cast_to ar to pe at t = one_item t ▷ (λ x. given (λ c. value_typed to pe x.is_constant c) (assigned ar to at x))

-- a number as one of a width, extended likewise, which keeps its sign, and its x and z
abbrev pub sized_as : Place → ℕ → Typed → Typed
sized_as pe n x =
    value_typed (selectable n (sign_of_type x.ty) (is_four_state x.ty)) pe x.is_constant
    (mapped (flat.Convert (integral n (sign_of_type x.ty) true)) (widened n x))

-- E13, E16: a cast to a width
abbrev pub sized : Place → Place → ℕ → Typed → Checked Typed
sized pe at n t =
    not_too_wide pe n ▷ (λ _. one_item t ▷ (λ x. if is_integral x.ty then Good (sized_as pe n x) else broken_at 16 at))

-- `bit` has two states
abbrev pub vector_word_four_state : VectorWord → Bool
vector_word_four_state word.Bit = false
vector_word_four_state _ = true

-- the types that have a width of their own
abbrev pub atom_type : AtomWord → Integral
atom_type atom.Byte = integral 8 true false
atom_type atom.Shortint = integral 16 true false
atom_type atom.Int = integral 32 true false
atom_type atom.Longint = integral 64 true false
atom_type atom.Integer = integral 32 true true
atom_type atom.Time = integral 64 false true
