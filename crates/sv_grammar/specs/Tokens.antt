-- Tokens as the grammar sees them, and sets of kinds of tokens.
use Rattle.std.specs.Prelude.{◌≡◌, ℕ, Bool, true, false, ◌==◌, if◌then◌else◌, List, [], ◌∷◌}
use Rattle.sv_value.specs.declared.place.Place.{Place}

-- a token: the number of its kind, its place, and its bytes where they are kept
pub record Tok : Type 0 where
  pub code : ℕ
  pub at : Place
  pub text : List ℕ

-- what stands after the end of the tokens: no kind has this number
abbrev pub blank : Tok
blank = record { code = 0; at = record { file = 0; line = 0; col = 0 }; text = [] }

-- the next token
abbrev pub next : List Tok → Tok
next [] = blank
next (t ∷ ts) = t

-- the token after which nothing of v and then n stands
abbrev pub before : List Tok → Tok → Tok
before [] n = n
before (t ∷ v) n = t

-- whether a number stands in a list
abbrev pub mem : ℕ → List ℕ → Bool
mem k [] = false
mem k (x ∷ xs) = if k == x then true else mem k xs

-- whether no number stands in both lists
abbrev pub disjoint : List ℕ → List ℕ → Bool
disjoint [] ys = true
disjoint (x ∷ xs) ys = if mem x ys then false else disjoint xs ys

-- the token is of one of these kinds
abbrev pub Has : List ℕ → Tok → Type 0
Has xs t = mem t.code xs ≡ true
