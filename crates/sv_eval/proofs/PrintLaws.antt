-- Printed times and characters.
use Rattle.std.proofs.Common.{◌≡◌, ℕ, zero, suc, ◌*◌, ◌<◌, true, false, min, List, ◌∷◌, length, take, drop, map, refl, sym, ap, ◌∙◌, arith, mul-pos}
use Rattle.std.specs.Prelude.{ℤ, pos, negsuc, neg_ℤ, ◌*ℤ◌, int_lt, unsigned_abs}
use Rattle.std.proofs.lemmas.Bool.{ltb-true}
use Rattle.std.proofs.lemmas.List.{take_min}
use Rattle.sv_value.specs.declared.word.Sym.{Sym}
use Rattle.sv_value.specs.Vector.{Vector, unsigned, HasWords, number, two_state}
use Rattle.sv_value.specs.Digits.{decimal, signed_decimal, byte_of}
use Rattle.sv_value.proofs.Words.{value-words}

-- ---- times

-- a number below 0
negative_text : (m : ℕ) → 0 < m → 45 ∷ decimal m ≡ signed_decimal (neg_ℤ (pos m))
negative_text zero h = absurd (omega (arith, h))
negative_text (suc m) h = refl

-- so many units below 0, in ticks
pub negative_time : (z : ℤ) (t : ℕ) → int_lt z (pos 0) ≡ true → (t ≡ 0 → ⊥) → 45 ∷ decimal (unsigned_abs z * t) ≡ signed_decimal (z *ℤ pos t)
negative_time (pos n) t h p = absurd (omega (arith, ltb-true n 0 h))
negative_time (negsuc n) t h p = negative_text (suc n * t) (mul-pos (omega arith) (omega (arith, p)))

-- so many units, in ticks
pub natural_time : (z : ℤ) (t : ℕ) → int_lt z (pos 0) ≡ false → decimal (unsigned_abs z * t) ≡ signed_decimal (z *ℤ pos t)
natural_time (pos n) t h = refl
natural_time (negsuc n) t h = absurd (cc h)

-- ---- characters

-- the word of the low 8 symbols
pub byte_is : (xs : List Sym) (n b u : ℕ) (part : Vector) → part ≡ unsigned (take n (drop 0 (map two_state xs))) → n ≡ min (length (map two_state xs)) 8
    → HasWords part.symbols b u → b ≡ byte_of xs
byte_is xs n b u part p e h =
    sym (value-words h) ∙ ap (λ (v : Vector). number v.symbols) p ∙ ap number (cut e)
  where
    cut : n ≡ min (length (map two_state xs)) 8 → take n (map two_state xs) ≡ take 8 (map two_state xs)
    cut same =
        let turned : n ≡ min 8 (length (map two_state xs)) = omega (arith, same) in
        ap (λ (m : ℕ). take m (map two_state xs)) turned ∙ take_min 8 (map two_state xs)
