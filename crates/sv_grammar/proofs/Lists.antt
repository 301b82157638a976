-- Lists of tokens cut in two ways, and sets of kinds.
use Rattle.std.proofs.Common.{◌≡◌, ℕ, Bool, true, false, cond, eqb, List, [], ◌∷◌, ◌++◌, ◌⊎◌, inl, inr, refl, sym}
use Rattle.std.proofs.lemmas.Bool.{eqb-true}
use Rattle.sv_grammar.specs.Tokens.{Tok, next, before, mem, disjoint}

-- two ways to cut one list
pub data Meet (u v x y : List Tok) : Type 0 where
  same : u ≡ x → v ≡ y → Meet u v x y
  longer : (h : Tok) (z : List Tok) → x ≡ u ++ h ∷ z → v ≡ h ∷ (z ++ y) → Meet u v x y
  shorter : (h : Tok) (z : List Tok) → u ≡ x ++ h ∷ z → y ≡ h ∷ (z ++ v) → Meet u v x y

onto : (a b : Tok) (u v x y : List Tok) → a ≡ b → Meet u v x y → Meet (a ∷ u) v (b ∷ x) y
onto a b u v x y e (same p q) = same (cc) q
onto a b u v x y e (longer h z p q) = longer h z (cc) q
onto a b u v x y e (shorter h z p q) = shorter h z (cc) q

pub meet : (u v x y : List Tok) → u ++ v ≡ x ++ y → Meet u v x y
meet [] v [] y e = same refl e
meet [] v (b ∷ x) y e = longer b x refl e
meet (a ∷ u) v [] y e = shorter a u refl (sym e)
meet (a ∷ u) v (b ∷ x) y e = onto a b u v x y (cc) (meet u v x y (cc))

pub next-append : (v rest : List Tok) → next (v ++ rest) ≡ before v (next rest)
next-append [] rest = refl
next-append (t ∷ v) rest = refl

-- a set is made of its parts
pub mem-append : (k : ℕ) (xs ys : List ℕ) → mem k (xs ++ ys) ≡ true → (mem k xs ≡ true) ⊎ (mem k ys ≡ true)
mem-append k [] ys h = inr h
mem-append k (x ∷ xs) ys h = go (eqb k x) h (mem-append k xs ys)
  where
    go : (b : Bool) → cond b true (mem k (xs ++ ys)) ≡ true → (mem k (xs ++ ys) ≡ true → (mem k xs ≡ true) ⊎ (mem k ys ≡ true)) → (cond b true (mem k xs) ≡ true) ⊎ (mem k ys ≡ true)
    go true h f = inl refl
    go false h f = f h

pub mem-left : (k : ℕ) (xs ys : List ℕ) → mem k xs ≡ true → mem k (xs ++ ys) ≡ true
mem-left k [] ys h = absurd cc
mem-left k (x ∷ xs) ys h = go (eqb k x) h (mem-left k xs ys)
  where
    go : (b : Bool) → cond b true (mem k xs) ≡ true → (mem k xs ≡ true → mem k (xs ++ ys) ≡ true) → cond b true (mem k (xs ++ ys)) ≡ true
    go true h f = refl
    go false h f = f h

pub mem-right : (k : ℕ) (xs ys : List ℕ) → mem k ys ≡ true → mem k (xs ++ ys) ≡ true
mem-right k [] ys h = h
mem-right k (x ∷ xs) ys h = go (eqb k x) (mem-right k xs ys h)
  where
    go : (b : Bool) → mem k (xs ++ ys) ≡ true → cond b true (mem k (xs ++ ys)) ≡ true
    go true f = refl
    go false f = f

-- disjoint sets have no kind in common
pub apart : (k : ℕ) (xs ys : List ℕ) → disjoint xs ys ≡ true → mem k xs ≡ true → mem k ys ≡ true → ⊥
apart k [] ys d h g = absurd cc
apart k (x ∷ xs) ys d h g = step (mem x ys) refl d (λ d h. apart k xs ys d h g)
  where
    here : (b : Bool) → eqb k x ≡ b → mem x ys ≡ false → disjoint xs ys ≡ true → cond b true (mem k xs) ≡ true → (disjoint xs ys ≡ true → mem k xs ≡ true → ⊥) → ⊥
    here true e m rest h f = let same : k ≡ x = eqb-true k x e in absurd cc
    here false e m rest h f = f rest h

    step : (b : Bool) → mem x ys ≡ b → cond b false (disjoint xs ys) ≡ true → (disjoint xs ys ≡ true → mem k xs ≡ true → ⊥) → ⊥
    step true m d f = absurd cc
    step false m d f = here (eqb k x) refl m d h f
