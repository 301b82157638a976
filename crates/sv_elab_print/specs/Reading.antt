-- How a format is read from the left (IEEE 1800-2017, 21.2.1).
use Rattle.std.specs.Prelude.{ℕ, ◌+◌, ◌*◌, ◌-◌, List, [], ◌∷◌, ◌++◌, Option, Some, None, option_map}
use Rattle.sv_value.specs.declared.operator.Piece.{Piece}
use Rattle.sv_value.specs.declared.operator.Pad.{Pad}
use Rattle.sv_value.specs.declared.operator.Pad.TheVariants.{Wide}
use Rattle.sv_names.specs.Formats.{lower, field_of, pad_of, spec_of, before_field, parts_from}
use Rattle.sv_elab_print.specs.declared.formats.Reading.{Reading}

-- a width of at most three digits
abbrev pub width_of : List ℕ → Option Pad
width_of (a ∷ []) = Some (Wide (a - 48))
width_of (a ∷ b ∷ []) = Some (Wide (10 * (a - 48) + (b - 48)))
width_of (a ∷ b ∷ c ∷ []) = Some (Wide (10 * (10 * (a - 48) + (b - 48)) + (c - 48)))
width_of ds = None

-- parts, and those that follow
abbrev pub parts_behind : List Piece → Option (List Piece) → Option (List Piece)
parts_behind done rest = option_map (λ ss. done ++ ss) rest

-- what a format that is read so far is in the end
abbrev pub read_behind : List Piece → (plain : List ℕ) → (digits : Option (List ℕ)) → List ℕ → Option (List Piece)
read_behind done plain digits cs = parts_behind done (parts_from plain digits cs)

-- the same, behind the letter of a field with such digits
abbrev pub letter_behind : List Piece → (plain digits : List ℕ) → (letter : ℕ) → List ℕ → Option (List Piece)
letter_behind done plain ds c cs =
    parts_behind done (before_field plain (spec_of (field_of (lower c)) (pad_of ds)) (parts_from [] None cs))

-- what a reading is in the end
abbrev pub read_on : Reading → List ℕ → Option (List Piece)
read_on r cs = read_behind r.done r.plain r.digits cs

-- the same, where it can be read so far
abbrev pub read_if : Option Reading → List ℕ → Option (List Piece)
read_if None cs = None
read_if (Some r) cs = read_on r cs
