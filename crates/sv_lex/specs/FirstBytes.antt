-- What the first byte of a text tells.
use Rattle.std.specs.Prelude.{ℕ, zero, suc, Bool, true, false, not, List, ◌∷◌, ◌==◌, codes}
use Rattle.std.specs.List.{list_any}

-- two texts begin with different bytes
abbrev pub begin_apart : List ℕ → List ℕ → Bool
begin_apart (x ∷ xs) (y ∷ ys) = not (x == y)
begin_apart xs ys = false

-- each of these is an operator, and begins no other
abbrev pub alone : List ℕ
alone = codes ";,()[]{}"

-- one of these
abbrev pub is_alone : ℕ → Bool
is_alone c = list_any (λ y. c == y) alone

-- one byte before a prefix of n bytes; before none it stands alone, where it passes
abbrev pub grown : Bool → ℕ → ℕ
grown true n = suc n
grown false zero = zero
grown false (suc n) = suc (suc n)
