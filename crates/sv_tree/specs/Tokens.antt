-- What a token is: for each kind a test of lists of bytes (IEEE 1800-2017, 5.3 to 5.9).
use Rattle.std.specs.Prelude.{ℕ, Bool, true, false, not, ◌&&◌, ◌||◌, List, [], ◌∷◌, Option, Some, None, unwrap_or, if◌then◌else◌, ◌==◌, codes}
use Rattle.std.specs.List.{list_all, list_any}
use Rattle.std.specs.Cmp.Lexicographic.{pointwise}
use Rattle.std.specs.Bool.{nat_eq}
use Prim.Native.Char.{code}
use Rattle.std.specs.Char.{is_ascii_digit, is_ascii_alphabetic}
use Rattle.sv_tree.specs.declared.kind.Kind.{Kind}
use Rattle.sv_tree.specs.declared.kind.Kind.TheVariants as kinds
unfoldable pub use Rattle.sv_tree.specs.Spellings.{words, signs, unused}

-- ---- words of tables

-- the bytes are these
abbrev pub is_word : List ℕ → List ℕ → Bool
is_word word w = pointwise nat_eq word w

-- the kind of a word in a table
unfoldable pub spelled : List (List ℕ × Kind) → List ℕ → Option Kind
spelled [] w = None
spelled (x ∷ xs) w = if is_word x.0 w then Some x.1 else spelled xs w

-- ---- letters

-- a letter or _
abbrev pub is_letter : ℕ → Bool
is_letter c = is_ascii_alphabetic c || c == code "_"

-- letters, digits, _ and $
abbrev pub is_name_part : ℕ → Bool
is_name_part c = is_letter c || is_ascii_digit c || c == code "$"

-- a digit or _
abbrev pub is_digit_or_mark : ℕ → Bool
is_digit_or_mark c = is_ascii_digit c || c == code "_"

-- ---- small tests

-- no byte
abbrev pub is_nil : List ℕ → Bool
is_nil [] = true
is_nil (c ∷ cs) = false

-- one byte that passes
unfoldable pub is_one : (ℕ → Bool) → List ℕ → Bool
is_one p [] = false
is_one p (c ∷ cs) = p c && is_nil cs

-- the byte k, and what passes
unfoldable pub is_after : ℕ → (List ℕ → Bool) → List ℕ → Bool
is_after k p [] = false
is_after k p (c ∷ cs) = c == k && p cs

-- ---- names

-- a letter or _, then letters, digits, _ and $ (5.6)
unfoldable pub is_name : List ℕ → Bool
is_name [] = false
is_name (c ∷ cs) = is_letter c && list_all is_name_part cs

-- $ and a name
unfoldable pub is_system_name : List ℕ → Bool
is_system_name w = is_after (code "$") is_name w

-- ---- numbers

-- digits and _, first a digit
unfoldable pub is_plain_number : List ℕ → Bool
is_plain_number [] = false
is_plain_number (c ∷ cs) = is_ascii_digit c && list_all is_digit_or_mark cs

-- 0, 1, x or z
abbrev pub is_filling_digit : ℕ → Bool
is_filling_digit c = c == code "0" || c == code "1" || c == code "x" || c == code "z" || c == code "X" || c == code "Z"

-- '0 '1 'x 'z
unfoldable pub is_filling_number : List ℕ → Bool
is_filling_number w = is_after (code "'") (is_one is_filling_digit) w

-- b, o, h
abbrev pub is_base_letter : ℕ → Bool
is_base_letter c = c == code "b" || c == code "B" || c == code "o" || c == code "O" || c == code "h" || c == code "H"

-- d
abbrev pub is_decimal_letter : ℕ → Bool
is_decimal_letter c = c == code "d" || c == code "D"

-- s
abbrev pub is_sign_letter : ℕ → Bool
is_sign_letter c = c == code "s" || c == code "S"

-- letters, digits and _
abbrev pub is_word_part : ℕ → Bool
is_word_part c = is_letter c || is_ascii_digit c

-- and ?
abbrev pub is_digit_part : ℕ → Bool
is_digit_part c = is_word_part c || c == code "?"

-- what follows d: a ? only where no decimal digit comes first
unfoldable pub is_decimal_body : List ℕ → Bool
is_decimal_body [] = true
is_decimal_body (c ∷ cs) = if is_ascii_digit c then list_all is_word_part cs else is_digit_part c && list_all is_digit_part cs

-- a base letter and what follows it
unfoldable pub is_base : List ℕ → Bool
is_base [] = false
is_base (c ∷ cs) = if is_decimal_letter c then is_decimal_body cs else is_base_letter c && list_all is_digit_part cs

-- with s before it, or not
unfoldable pub is_signed_base : List ℕ → Bool
is_signed_base [] = false
is_signed_base (c ∷ cs) = if is_sign_letter c then is_base cs else is_base (c ∷ cs)

-- a based number without a size
unfoldable pub is_based_number : List ℕ → Bool
is_based_number w = is_after (code "'") is_signed_base w

-- the rest of a size, and a based number
unfoldable pub is_size_rest : List ℕ → Bool
is_size_rest [] = false
is_size_rest (c ∷ cs) = if is_digit_or_mark c then is_size_rest cs else is_based_number (c ∷ cs)

-- a size and a based number
unfoldable pub is_sized_number : List ℕ → Bool
is_sized_number [] = false
is_sized_number (c ∷ cs) = is_ascii_digit c && is_size_rest cs

-- a number of any form (5.7.1)
unfoldable pub is_number : List ℕ → Bool
is_number w = is_plain_number w || (is_filling_number w || (is_based_number w || is_sized_number w))

-- ---- times

-- m u n p f
abbrev pub is_unit_letter : ℕ → Bool
is_unit_letter c = c == code "m" || c == code "u" || c == code "n" || c == code "p" || c == code "f"

-- s ms us ns ps fs
unfoldable pub is_unit : List ℕ → Bool
is_unit [] = false
is_unit (c ∷ cs) = if c == code "s" then is_nil cs else is_unit_letter c && is_one (λ d. d == code "s") cs

-- the rest of the digits, and a unit
unfoldable pub is_time_rest : List ℕ → Bool
is_time_rest [] = false
is_time_rest (c ∷ cs) = if is_ascii_digit c then is_time_rest cs else is_unit (c ∷ cs)

-- digits and a unit
unfoldable pub is_time : List ℕ → Bool
is_time [] = false
is_time (c ∷ cs) = is_ascii_digit c && is_time_rest cs

-- "1step", which is one token
unfoldable pub is_one_step : List ℕ → Bool
is_one_step w = is_word (codes "1step") w

-- ---- string literals

-- n, t, \ and "
abbrev pub is_escape : ℕ → Bool
is_escape c = c == code "n" || c == code "t" || c == code "\\" || c == code "\""

-- any byte but a newline
abbrev pub is_on_line : ℕ → Bool
is_on_line c = not (c == code "\n")

-- after the first quote; after_slash tells that a \ stands before, and escape which bytes may follow it
unfoldable pub is_string_rest : (ℕ → Bool) → Bool → List ℕ → Bool
is_string_rest escape after_slash [] = false
is_string_rest escape true (c ∷ cs) = escape c && is_string_rest escape false cs
is_string_rest escape false (c ∷ cs) =
    if c == code "\"" then is_nil cs
    else (if c == code "\\" then is_string_rest escape true cs
    else is_on_line c && is_string_rest escape false cs)

-- a string literal (5.9)
unfoldable pub is_string : (ℕ → Bool) → List ℕ → Bool
is_string escape w = is_after (code "\"") (is_string_rest escape false) w

-- ---- operators

-- a word of a table
unfoldable pub is_spelled : List (List ℕ × Kind) → List ℕ → Bool
is_spelled [] w = false
is_spelled (x ∷ xs) w = is_word x.0 w || is_spelled xs w

-- ---- all kinds

-- the reserved word that no rule accepts, or a name
unfoldable pub plain_word : List ℕ → Kind
plain_word w = if list_any (λ x. is_word x w) unused then kinds.Reserved else kinds.Name

-- a reserved word, or a name
unfoldable pub kind_of_name : List ℕ → Kind
kind_of_name w = unwrap_or (spelled words w) (plain_word w)

-- the kind of a token; none of what is no token
unfoldable pub kind_of : List ℕ → Option Kind
kind_of w =
    if is_name w then Some (kind_of_name w)
    else (if is_system_name w then Some kinds.SystemName
    else (if is_number w then Some kinds.Number
    else (if is_time w then Some kinds.TimeLiteral
    else (if is_one_step w then Some kinds.OneStep
    else (if is_string is_escape w then Some kinds.StringLiteral
    else spelled signs w)))))
