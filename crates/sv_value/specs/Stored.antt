-- Not needed to know what a vector is: the two words that hold one tell its symbols.
use Rattle.std.proofs.Common.{◌≡◌, ℕ, zero, suc, ◌+◌, ◌*◌, ◌/◌, ◌%◌, ◌^◌, ◌<◌, length, refl, sym, ap, ◌∙◌, arith}
use Rattle.std.proofs.Math.Nat.{mod-lt, mod-one, mod-eq_of_lt}
use Rattle.std.proofs.lemmas.Nat.{mod-pow-add}
use Rattle.sv_value.specs.Vector.{symbol, symbols_of, word_of, value_bit, unknown_bit, IsWithin}

-- a fact on two bits
pub by_bits : (P : ℕ → ℕ → Type 0) → P 0 0 → P 0 1 → P 1 0 → P 1 1 → (a b : ℕ) → a < 2 → b < 2 → P a b
by_bits P p q r s zero zero a b = p
by_bits P p q r s zero (suc zero) a b = q
by_bits P p q r s (suc zero) zero a b = r
by_bits P p q r s (suc zero) (suc zero) a b = s
by_bits P p q r s (suc (suc m)) n a b = absurd (omega arith)
by_bits P p q r s zero (suc (suc n)) a b = absurd (omega arith)
by_bits P p q r s (suc zero) (suc (suc n)) a b = absurd (omega arith)

pub length-symbols_of : (w v u : ℕ) → length (symbols_of w v u) ≡ w
unfolding symbols_of
length-symbols_of zero v u = refl
length-symbols_of (suc w) v u = ap suc (length-symbols_of w (v / 2) (u / 2))

pub value_bit-symbol : (a b : ℕ) → a < 2 → b < 2 → value_bit (symbol a b) ≡ a
value_bit-symbol = by_bits (λ a b. value_bit (symbol a b) ≡ a) refl refl refl refl

pub unknown_bit-symbol : (a b : ℕ) → a < 2 → b < 2 → unknown_bit (symbol a b) ≡ b
unknown_bit-symbol = by_bits (λ a b. unknown_bit (symbol a b) ≡ b) refl refl refl refl

lowest : (w n : ℕ) → n % 2 ^ suc w ≡ n % 2 + 2 * (n / 2 % 2 ^ w)
lowest w n = ap (λ k. n % 2 ^ k) (omega arith) ∙ mod-pow-add n w 1 ∙ omega arith

pub word_of-value : (w v u : ℕ) → word_of value_bit (symbols_of w v u) ≡ v % 2 ^ w
unfolding symbols_of word_of
word_of-value zero v u = sym (mod-one v)
word_of-value (suc w) v u =
    rw (value_bit-symbol (v % 2) (u % 2) (mod-lt v (omega arith)) (mod-lt u (omega arith)), word_of-value w (v / 2) (u / 2), lowest w v) refl

pub word_of-unknown : (w v u : ℕ) → word_of unknown_bit (symbols_of w v u) ≡ u % 2 ^ w
unfolding symbols_of word_of
word_of-unknown zero v u = sym (mod-one u)
word_of-unknown (suc w) v u =
    rw (unknown_bit-symbol (v % 2) (u % 2) (mod-lt v (omega arith)) (mod-lt u (omega arith)), word_of-unknown w (v / 2) (u / 2), lowest w u) refl

pub word_of-value_within : (w v u : ℕ) → IsWithin w v u → word_of value_bit (symbols_of w v u) ≡ v
word_of-value_within w v u h = word_of-value w v u ∙ mod-eq_of_lt h.value_fits

pub word_of-unknown_within : (w v u : ℕ) → IsWithin w v u → word_of unknown_bit (symbols_of w v u) ≡ u
word_of-unknown_within w v u h = word_of-unknown w v u ∙ mod-eq_of_lt h.unknown_fits
