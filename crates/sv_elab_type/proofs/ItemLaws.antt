-- Numbers in types, and literals that fill their context.
use Rattle.std.proofs.Common.{arith, rules, ◌≡◌, ℕ, zero, suc, true, false, true≢false, refl, sym, ap, ◌∙◌, Some, None}
use Rattle.std.specs.Prelude.{ℤ, pos, negsuc, int_lt, unsigned_abs, ◌+ℤ◌, ◌-◌, ◌^◌, ◌&&◌, nat_lt}
use Rattle.sv_value.specs.declared.val.Integral.{Integral}
use Rattle.sv_flat.specs.Expr as flat
use Rattle.sv_flat.specs.Eval.{value_of}
use Rattle.sv_names.specs.declared.ty.Ty.{Ty}
use Rattle.sv_names.specs.declared.typed.Typed.{Typed}
use Rattle.sv_names.specs.Declarations.{fits_in, in_base}
use Rattle.sv_names.specs.Types.{width_of_type}
use Rattle.sv_names.specs.Values.{vector_of, nowhere}
use Rattle.sv_elab_type.specs.Items.{fits_above, fits_below, filled}

-- by whether the number is below 0
pub above_is : (i : Integral) (z : ℤ) → int_lt z (pos 0) ≡ false → fits_above i z ≡ fits_in i z
above_is i (pos n) h = refl
above_is i (negsuc n) h = absurd (true≢false h)

abs_next : (n : ℕ) → unsigned_abs (negsuc n +ℤ pos 1) ≡ n
abs_next n = grind (arith, rules)

pub below_is : (i : Integral) (z : ℤ) → int_lt z (pos 0) ≡ true → fits_below i z ≡ fits_in i z
below_is i (pos zero) h = absurd (true≢false (sym h))
below_is i (pos (suc n)) h = absurd (true≢false (sym h ∙ grind (arith, rules)))
below_is i (negsuc n) h = ap (λ k. i.signed && nat_lt k (2 ^ (i.width - 1))) (abs_next n)

-- a literal that fills its context fills the base
with_code : (to : Ty) (t : Typed) (e : flat.Expr)
    → vector_of (value_of (filled (width_of_type to) e) nowhere) ≡ in_base to (record t { code = record t.code { value = e } })
with_code to t (flat.Literal v (Some s)) = refl
with_code to t (flat.Literal v None) = refl
with_code to t e = refl

pub base_is : (to : Ty) (t : Typed) → vector_of (value_of (filled (width_of_type to) t.code.value) nowhere) ≡ in_base to t
base_is to t = with_code to t t.code.value
