-- Selects, from places inside and outside a vector.
use Rattle.std.proofs.Common.{◌≡◌, ℕ, zero, suc, ◌+◌, ◌-◌, ◌<◌, ◌≤◌, List, [], ◌∷◌, ◌++◌, length, take, drop, replicate, get_or, refl, sym, ap, ◌∙◌, arith, ⊎_elim, ℤ, pos, negsuc, neg_ℤ, ◌+ℤ◌, drop-cons, add-one}
use Rattle.std.proofs.lemmas.Bool.{cases_lt}
use Rattle.std.proofs.lemmas.Int.{ints}
use Rattle.std.proofs.lemmas.List.{take-replicate, get_or_past, drop_all, length-drop, take_all}
use Rattle.sv_value.specs.declared.word.Sym.{Sym}
use Rattle.sv_value.specs.Vector.{extended}
use Rattle.sv_flat.specs.Eval.{symbols_from}

-- more copies than are asked for
take_filled : (w m : ℕ) (s : Sym) (ys : List Sym) → w ≤ m → take w (ys ++ replicate m s) ≡ extended w s ys
take_filled zero m s ys h = refl
take_filled (suc w) m s [] h = take-replicate (suc w) m s h ∙ sym (take-replicate (suc w) (suc w) s (omega arith))
take_filled (suc w) m s (y ∷ ys) h =
    ap (λ (zs : List Sym). y ∷ zs) (take_filled w m s ys (omega arith) ∙ sym (take_filled w (suc w) s ys (omega arith)))

-- one symbol more
extended_cons : (w : ℕ) (s y : Sym) (ys : List Sym) → y ∷ extended w s ys ≡ extended (suc w) s (y ∷ ys)
extended_cons w s y ys = ap (λ (zs : List Sym). y ∷ zs) (sym (take_filled w (suc w) s ys (omega arith)))

-- copies alone
extended_none : (w : ℕ) (s : Sym) → extended w s [] ≡ replicate w s
extended_none w s = take-replicate w w s (omega arith)

-- ---- places that are not below the vector

-- one symbol, and those behind it
symbol_inside : (o : Sym) (xs : List Sym) (l w : ℕ) → symbols_from o xs (pos (l + 1)) w ≡ extended w o (drop (l + 1) xs) → l < length xs
    → symbols_from o xs (pos l) (suc w) ≡ extended (suc w) o (drop l xs)
symbol_inside o xs l w next h =
    ap (λ (zs : List Sym). get_or xs l o ∷ zs) next ∙ ap (λ (n : ℕ). get_or xs l o ∷ extended w o (drop n xs)) (add-one l)
    ∙ extended_cons w o (get_or xs l o) (drop (suc l) xs) ∙ ap (extended (suc w) o) (sym (drop-cons xs l o h))

symbol_outside : (o : Sym) (xs : List Sym) (l w : ℕ) → symbols_from o xs (pos (l + 1)) w ≡ extended w o (drop (l + 1) xs) → length xs ≤ l
    → symbols_from o xs (pos l) (suc w) ≡ extended (suc w) o (drop l xs)
symbol_outside o xs l w next h =
    (λ i. get_or_past xs l o h i ∷ next i) ∙ ap (λ (zs : List Sym). o ∷ extended w o zs) (drop_all (l + 1) xs (omega arith))
    ∙ ap (λ (zs : List Sym). o ∷ zs) (extended_none w o) ∙ sym (extended_none (suc w) o)
    ∙ ap (extended (suc w) o) (sym (drop_all l xs h))

-- the symbols from a place on
from_place : (o : Sym) (xs : List Sym) (l w : ℕ) → symbols_from o xs (pos l) w ≡ extended w o (drop l xs)
from_place o xs l zero = refl
from_place o xs l (suc w) =
    ⊎_elim (symbol_inside o xs l w (from_place o xs (l + 1) w)) (symbol_outside o xs l w (from_place o xs (l + 1) w)) (cases_lt l (length xs))

-- the vector begins at or below the place
pub from_inside : (o : Sym) (xs : List Sym) (l w n : ℕ) → n ≡ length xs - l → extended w o (take n (drop l xs)) ≡ symbols_from o xs (pos l) w
from_inside o xs l w n h = ap (extended w o) (take_all n (drop l xs) (simp length-drop (omega arith))) ∙ sym (from_place o xs l w)

-- the vector ends below the place
pub from_above : (o : Sym) (xs : List Sym) (l w : ℕ) → length xs ≤ l → replicate w o ≡ symbols_from o xs (pos l) w
from_above o xs l w h = sym (from_place o xs l w ∙ ap (extended w o) (drop_all l xs h) ∙ extended_none w o)

-- ---- places below the vector

-- the next place
next_below : (n : ℕ) → negsuc (suc n) +ℤ pos 1 ≡ negsuc n
next_below n = omega (arith, ints)

-- all of them
all_below : (o : Sym) (xs : List Sym) (n w : ℕ) → w ≤ suc n → symbols_from o xs (negsuc n) w ≡ replicate w o
all_below o xs n zero h = refl
all_below o xs zero (suc zero) h = refl
all_below o xs zero (suc (suc w)) h = absurd (omega arith)
all_below o xs (suc n) (suc w) h =
    ap (λ (z : ℤ). o ∷ symbols_from o xs z w) (next_below n) ∙ ap (λ (zs : List Sym). o ∷ zs) (all_below o xs n w (omega arith))

-- the first of them
some_below : (o : Sym) (xs : List Sym) (n w m : ℕ) → w ≡ m + suc n → symbols_from o xs (negsuc n) w ≡ replicate (suc n) o ++ symbols_from o xs (pos 0) m
some_below o xs n zero m h = absurd (omega arith)
some_below o xs zero (suc w) m h = let same : w ≡ m = omega arith in ap (λ (k : ℕ). o ∷ symbols_from o xs (pos 0) k) same
some_below o xs (suc n) (suc w) m h =
    ap (λ (z : ℤ). o ∷ symbols_from o xs z w) (next_below n) ∙ ap (λ (zs : List Sym). o ∷ zs) (some_below o xs n w m (omega arith))

-- the vector begins above all places
pub from_below : (o : Sym) (xs : List Sym) (m w : ℕ) → 1 ≤ m → w ≤ m → replicate w o ≡ symbols_from o xs (neg_ℤ (pos m)) w
from_below o xs zero w p h = absurd (omega arith)
from_below o xs (suc n) w p h = sym (all_below o xs n w h)

-- the vector begins among the places
pub from_partly_below : (o : Sym) (xs : List Sym) (m w n : ℕ) → 1 ≤ m → m < w → n ≡ w - m → replicate m o ++ extended n o xs ≡ symbols_from o xs (neg_ℤ (pos m)) w
from_partly_below o xs zero w n p h e = absurd (omega arith)
from_partly_below o xs (suc m) w n p h e =
    sym (some_below o xs m w n (omega arith) ∙ ap (λ (zs : List Sym). replicate (suc m) o ++ zs) (from_place o xs 0 n))
