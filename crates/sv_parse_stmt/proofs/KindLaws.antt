-- Kinds in lists of kinds, and budgets.
use Rattle.std.proofs.Common.{◌≡◌, ℕ, ◌<◌, Bool, true, false, cond, eqb, ◌==◌, [], ◌∷◌, refl, arith}
use Rattle.std.proofs.lemmas.Bool.{eqb-true}
use Rattle.sv_grammar.specs.Tokens.{mem}
use Rattle.sv_grammar.specs.Code.{reach}
use Rattle.sv_grammar.proofs.Budgets.{le-reach}

-- the one kind of a list
pub is_one : (n m : ℕ) → mem n (m ∷ []) ≡ true → n ≡ m
is_one n m h = go (eqb n m) refl h
  where
    go : (b : Bool) → eqb n m ≡ b → cond b true false ≡ true → n ≡ m
    go true e h = eqb-true n m e
    go false e h = absurd cc

-- something may stand inside
pub reach_one : (d : ℕ) → 0 < d → reach 1 d ≡ true
reach_one d lt = le-reach 1 d (omega arith)

-- not the one kind of a list
pub is_other : (n m : ℕ) → mem n (m ∷ []) ≡ false → (n == m) ≡ false
is_other n m h = go (n == m) h
  where
    go : (b : Bool) → cond b true false ≡ false → b ≡ false
    go true h = absurd cc
    go false h = refl
