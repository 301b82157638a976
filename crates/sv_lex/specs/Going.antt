-- What has been read, before what is read after it.
use Rattle.std.specs.Prelude.{◌≡◌, ℕ, ◌≤◌, List, [], ◌∷◌, ◌++◌, length, take, drop}
use Rattle.sv_value.specs.declared.place.Place.{Place}
use Rattle.sv_tree.specs.declared.token.Token.{Token}
use Rattle.sv_tree.specs.declared.token.Timescale.{Timescale}
use Rattle.sv_tree.specs.declared.token.Piece.{Piece}
use Rattle.sv_tree.specs.declared.token.Piece.TheVariants as pieces
use Rattle.sv_tree.specs.Lexing.{Reading, after, reading}

-- tokens and time scales before a reading
abbrev pub joined : List Token → List Timescale → Reading → Reading
joined ts cs r = record { tokens = ts ++ r.tokens; scales = cs ++ r.scales; fault = r.fault }

-- the place after some bytes
unfoldable pub moved : Place → List ℕ → Place
moved p [] = p
moved p (c ∷ cs) = moved (after c p) cs

-- from a place on, the rest is read so behind these tokens and time scales
abbrev pub read_on : List Token → List Timescale → Place → List ℕ → Reading
read_on ts cs at s = joined ts cs (reading (length ts) 0 at s)

-- behind n bytes more, and what they gave, all is read as before
abbrev pub Goes : List Token → List Timescale → List Token → List Timescale → Place → ℕ → List ℕ → Type 0
Goes ts cs ts' cs' at n s = read_on ts' cs' (moved at (take n s)) (drop n s) ≡ read_on ts cs at s

-- a piece has a byte, and stands in the text
abbrev pub Fits : Piece → ℕ → Type 0
Fits (pieces.Passed n) m = (1 ≤ n) × (n ≤ m)
Fits (pieces.Scale unit precision n) m = (1 ≤ n) × (n ≤ m)
Fits (pieces.Token k n) m = (1 ≤ n) × (n ≤ m)
Fits (pieces.Nothing why) m = Unit {0}
