-- A part of a vector over its old symbols.
use Rattle.std.proofs.Common.{◌≡◌, ℕ, zero, suc, ◌+◌, ◌-◌, ◌<◌, ◌≤◌, List, [], ◌∷◌, ◌++◌, length, take, drop, get_or, refl, sym, ap, ◌∙◌, arith, ⊎_elim, ℤ, pos, negsuc, neg_ℤ, ◌+ℤ◌, drop-cons, add-one, append_assoc}
use Rattle.std.specs.Prelude.{min}
use Rattle.std.proofs.lemmas.Bool.{cases_lt}
use Rattle.std.proofs.lemmas.Int.{ints}
use Rattle.std.proofs.lemmas.List.{get_or_past, drop_all, drop-drop, length-take, length-drop}
use Rattle.sv_value.specs.declared.word.Sym.{Sym}
use Rattle.sv_value.specs.Vector.{with_part}
use Rattle.sv_flat.specs.Effects.Writes.{symbol_over, symbols_over}

-- the symbols of a part, as many as are asked for
pub taken_is : (w n : ℕ) (xs : List Sym) → n ≡ min w (length xs) → take n (drop 0 xs) ≡ take w xs
taken_is zero zero [] h = refl
taken_is zero (suc n) [] h = refl
taken_is (suc w) zero [] h = refl
taken_is (suc w) (suc n) [] h = refl
taken_is zero zero (x ∷ xs) h = refl
taken_is zero (suc n) (x ∷ xs) h = absurd (omega arith)
taken_is (suc w) zero (x ∷ xs) h = absurd (omega arith)
taken_is (suc w) (suc n) (x ∷ xs) h = ap (λ (ys : List Sym). x ∷ ys) (taken_is w n xs (omega arith))

-- ---- symbols over others, from the first one on

-- symbols over the first ones of a vector
abbrev over : List Sym → List Sym → List Sym
over [] q = []
over (x ∷ xs) [] = x ∷ xs
over (x ∷ xs) (y ∷ q) = y ∷ over xs q

over_is : (xs q : List Sym) (n : ℕ) → n ≡ min (length q) (length xs) → take n q ++ drop n xs ≡ over xs q
over_is [] q zero h = refl
over_is [] q (suc n) h = absurd (omega arith)
over_is (x ∷ xs) [] zero h = refl
over_is (x ∷ xs) [] (suc n) h = absurd (omega arith)
over_is (x ∷ xs) (y ∷ q) zero h = absurd (omega arith)
over_is (x ∷ xs) (y ∷ q) (suc n) h = ap (λ (ys : List Sym). y ∷ ys) (over_is xs q n (omega arith))

-- ---- the vector begins at a place of the part

-- the part ends below the vector
pub from_past : (xs : List Sym) (p : ℕ) (part : List Sym) → length part ≤ p → xs ≡ symbols_over xs (pos p) part
from_past [] p part h = refl
from_past (x ∷ xs) p part h = λ i. sym (get_or_past part p x h) i ∷ from_past xs (p + 1) part (omega arith) i

-- one symbol, and those behind it
inside : (x : Sym) (xs : List Sym) (p : ℕ) (part : List Sym) → symbols_over xs (pos (p + 1)) part ≡ over xs (drop (p + 1) part)
    → p < length part → symbols_over (x ∷ xs) (pos p) part ≡ over (x ∷ xs) (drop p part)
inside x xs p part next h =
    ap (λ (ys : List Sym). get_or part p x ∷ ys) (next ∙ ap (λ (n : ℕ). over xs (drop n part)) (add-one p))
    ∙ ap (over (x ∷ xs)) (sym (drop-cons part p x h))

outside : (x : Sym) (xs : List Sym) (p : ℕ) (part : List Sym)
    → length part ≤ p → symbols_over (x ∷ xs) (pos p) part ≡ over (x ∷ xs) (drop p part)
outside x xs p part h = sym (from_past (x ∷ xs) p part h) ∙ ap (over (x ∷ xs)) (sym (drop_all p part h))

over_from : (xs : List Sym) (p : ℕ) (part : List Sym) → symbols_over xs (pos p) part ≡ over xs (drop p part)
over_from [] p part = refl
over_from (x ∷ xs) p part = ⊎_elim (inside x xs p part (over_from xs (p + 1) part)) (outside x xs p part) (cases_lt p (length part))

pub from_within : (xs : List Sym) (p : ℕ) (part : List Sym) (n : ℕ) → n ≡ min (length part - p) (length xs)
    → with_part xs 0 (take n (drop p part)) ≡ symbols_over xs (pos p) part
from_within xs p part n h =
    let many : length (take n (drop p part)) ≡ n = simp (length-take, length-drop) (omega arith) in
    ap (λ (k : ℕ). take n (drop p part) ++ drop k xs) (omega (arith, many))
    ∙ over_is xs (drop p part) n (simp length-drop (omega arith)) ∙ sym (over_from xs p part)

-- ---- the part begins at a place of the vector

next_above : (m : ℕ) → negsuc m +ℤ pos 1 ≡ neg_ℤ (pos m)
next_above zero = refl
next_above (suc n) = omega (arith, ints)

over_above : (xs : List Sym) (l : ℕ) (part : List Sym) → symbols_over xs (neg_ℤ (pos l)) part ≡ take l xs ++ over (drop l xs) part
over_above xs zero part = over_from xs 0 part
over_above [] (suc m) part = refl
over_above (x ∷ xs) (suc m) part =
    ap (λ (z : ℤ). x ∷ symbols_over xs z part) (next_above m) ∙ ap (λ (ys : List Sym). x ∷ ys) (over_above xs m part)

-- the vector ends below the part
pub above_past : (xs : List Sym) (l : ℕ) (part : List Sym) → length xs ≤ l → xs ≡ symbols_over xs (neg_ℤ (pos l)) part
above_past [] l part h = refl
above_past (x ∷ xs) zero part h = absurd (omega arith)
above_past (x ∷ xs) (suc m) part h =
    ap (λ (ys : List Sym). x ∷ ys) (above_past xs m part (omega arith)) ∙ ap (λ (z : ℤ). x ∷ symbols_over xs z part) (sym (next_above m))

pub above_within : (xs : List Sym) (l : ℕ) (part : List Sym) (n : ℕ) → n ≡ min (length part) (length xs - l)
    → with_part xs l (take n (drop 0 part)) ≡ symbols_over xs (neg_ℤ (pos l)) part
above_within xs l part n h =
    let many : length (take n part) ≡ n = simp length-take (omega arith) in
    append_assoc (take l xs) (take n part) (drop (l + length (take n part)) xs)
    ∙ ap (λ (k : ℕ). take l xs ++ (take n part ++ drop (l + k) xs)) many
    ∙ ap (λ (ys : List Sym). take l xs ++ (take n part ++ ys)) (sym (drop-drop n l xs))
    ∙ ap (λ (ys : List Sym). take l xs ++ ys) (over_is (drop l xs) part n (simp length-drop (omega arith))) ∙ sym (over_above xs l part)

-- nothing is written
pub over_nothing : (xs : List Sym) (z : ℤ) → xs ≡ symbols_over xs z []
over_nothing [] z = refl
over_nothing (x ∷ xs) z = λ i. nothing z i ∷ over_nothing xs (z +ℤ pos 1) i
  where
    nothing : (z : ℤ) → x ≡ symbol_over [] z x
    nothing (pos n) = refl
    nothing (negsuc n) = refl

pub over_no_bit : (xs part : List Sym) (z : ℤ) (w : ℕ) → 1 ≤ length part → min (length part) w ≡ 0 → xs ≡ symbols_over xs z (take w part)
over_no_bit xs part z zero h e = over_nothing xs z
over_no_bit xs part z (suc w) h e = absurd (omega arith)
