-- Widths as a word keeps them: those of operations come from those of their operands.
use Rattle.std.proofs.Common.{ℕ, zero, suc, ◌≡◌, ◌+◌, ◌*◌, ◌<◌, ◌≤◌, refl, ap, subst, arith, inl, inr, ◌⊎◌}
use Rattle.std.proofs.Math.Nat.{mul_comm, le-mul_of_pos_right}
use Rattle.std.proofs.lemmas.Bool.{cases_lt}
use Rattle.std.specs.Prelude.{max, ◌^◌}
use Rattle.sv_flat.specs.declared.context.Operands.{Operands}
use Rattle.sv_flat.specs.declared.context.Operands.TheVariants as operands
use Rattle.sv_flat.specs.Contexts.{IsWidth}
use Rattle.sv_flat.specs.Contexts.{kept_width}
use Rattle.sv_flat.specs.Eval.{binary_width}

pub wider_kept : (a b : ℕ) → max (kept_width a) (kept_width b) ≡ kept_width (max a b)
wider_kept a b = omega (arith)

pub operation_kept : (o : Operands) (a b : ℕ) → binary_width o (kept_width a) (kept_width b) ≡ kept_width (binary_width o a b)
operation_kept operands.InContext a b = wider_kept a b
operation_kept operands.ByAmount a b = refl
operation_kept operands.Compared a b = refl
operation_kept operands.ByTruth a b = refl

pub join_kept : (a b : ℕ) → kept_width (kept_width a + kept_width b) ≡ kept_width (a + b)
join_kept a b = omega (arith)

-- what is multiplied by a width as it is kept
pub repeat_kept : (n w : ℕ) → kept_width (n * kept_width w) ≡ kept_width (n * w)
repeat_kept zero w = omega (arith)
repeat_kept (suc n) w = by_size (cases_lt w (2 ^ 32))
  where
    by_size : (w < 2 ^ 32) ⊎ (2 ^ 32 ≤ w) → kept_width (suc n * kept_width w) ≡ kept_width (suc n * w)
    by_size (inl h) = ap (λ (k : ℕ). kept_width (suc n * k)) (omega (arith, h))
    by_size (inr h) =
        let grows : (k : ℕ) → k ≤ suc n * k = λ k. subst (λ (m : ℕ). k ≤ m) (mul_comm k (suc n)) (le-mul_of_pos_right k (omega (arith))) in
        omega (arith, h, grows (kept_width w), grows w)

-- a width that is allowed is kept whole
pub kept_built : (w : ℕ) → IsWidth w → kept_width w ≡ w
kept_built w h = omega (arith, h.1)
