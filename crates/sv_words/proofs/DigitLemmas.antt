-- Numbers of digits.
use Rattle.std.proofs.Common.{ℕ, ◌≡◌, ◌^◌, ◌≤◌, zero, suc, inl, inr, ◌⊎◌, pow-suc, ap, arith, true}
use Rattle.std.proofs.lemmas.Bool.Decides.{nat_tests}
use Rattle.sv_words.specs.Digits.{is_digit}

at_most : (n m : ℕ) → n ≤ suc m → (n ≤ m) ⊎ (n ≡ suc m)
at_most n m h = grind arith

pub ten_most : (i k : ℕ) → i ≤ k → 10 ^ i ≤ 10 ^ k
ten_most i zero h = let e : i ≡ 0 = omega arith in omega (arith, ap (λ (n : ℕ). 10 ^ n) e)
ten_most i (suc k) h =
    elim (at_most i k h) [
      | inl le ↦ omega (arith, ten_most i k le, pow-suc 10 k)
      | inr e ↦ omega (arith, ap (λ (n : ℕ). 10 ^ n) e)
    ]

pub digit_at_most : (b : ℕ) → is_digit b ≡ true → b ≤ 57
digit_at_most b h = grind (arith, nat_tests)
