-- Literals run as their types.
use Rattle.std.proofs.Common.{◌≡◌, ℕ, ◌-◌, true, false, true≢false, ◌||◌, List, [], ◌∷◌, length, Option, Some, None, Result, Err, refl, sym, subst, ◌==◌}
use Rattle.std.proofs.lemmas.Bool.Decides.{Decides-eqb}
use Prim.Native.Char.{code}
use Rattle.sv_value.specs.declared.word.Sym.{Sym}
use Rattle.sv_value.specs.declared.place.Place.{Place}
use Rattle.sv_value.specs.Stored.{length-symbols_of}
use Rattle.sv_flat.specs.declared.design.Scale.{Scale}
use Rattle.sv_flat.specs.Expr as flat
use Rattle.sv_digits.specs.declared.literal.Number.{Number}
use Rattle.sv_digits.specs.declared.literal.LiteralFault.{LiteralFault}
use Rattle.sv_digits.specs.declared.literal.LiteralFault.TheVariants.{BadDigit}
use Rattle.sv_digits.specs.Literal as digits
use Rattle.sv_names.specs.declared.ty.Ty.{Ty}
use Rattle.sv_names.specs.Literals.{number_or, number_of, fill_of_number}
use Rattle.sv_names.specs.Operators.{fills_alone, literal_typed, time_typed}
use Rattle.sv_elab_laws.specs.Fits.{Enums, IsType, Runs, Fits}
use Rattle.sv_elab_laws.proofs.Kept.{if_told, if_each}

-- ---- `'0` and its kin

-- one bit without a sign
pub record IsBit (r : Result Number LiteralFault) : Type 0 where
  pub width : length (number_or r).bits.symbols ≡ 1
  pub sign : (number_or r).bits.signed ≡ false

bad_digit : IsBit (Err BadDigit)
bad_digit = record { width = refl; sign = refl }

-- no digits are no number
none_valued : (base w : ℕ) → digits.valued base w [] ≡ None
none_valued base w =
    let P : Option (List Sym) → Type 0 = λ o. o ≡ None in
    if_each P (base == code "b" || base == code "B") _ _ refl (if_each P (base == code "o" || base == code "O") _ _ refl
    (if_each P (base == code "h" || base == code "H") _ _ refl (if_each P (base == code "d" || base == code "D") _ _ refl refl)))

no_digits : (base : ℕ) → IsBit (digits.with_base [] false (base ∷ []))
no_digits base =
    subst (λ (o : Option (List Sym)). IsBit (digits.sized_literal [] false (digits.width_of []) o (digits.fill_of []))) (sym (none_valued base (digits.width_of []))) bad_digit

bit_without_size : (d : ℕ) (o : Option Sym) → IsBit (digits.without_size (d ∷ []) o)
bit_without_size d (Some s) = record { width = refl; sign = refl }
bit_without_size d None = if_each IsBit (digits.is_sign d) _ _ bad_digit (no_digits d)

quoted_bit : (d : ℕ) → IsBit (digits.literal_of (39 ∷ d ∷ []))
quoted_bit d = bit_without_size d (digits.filling_of (d ∷ []))

fills_bit : (text : List ℕ) → fills_alone text ≡ true → IsBit (digits.literal_of text)
fills_bit (c ∷ d ∷ []) is = subst (λ (q : ℕ). IsBit (digits.literal_of (q ∷ d ∷ []))) (sym ((Decides-eqb c 39).0 is)) (quoted_bit d)
fills_bit [] is = absurd (true≢false (sym is))
fills_bit (c ∷ []) is = absurd (true≢false (sym is))
fills_bit (c ∷ d ∷ e ∷ text) is = absurd (true≢false (sym is))

-- ---- numbers and times

module _ (enums : Enums) where
  pub literal_fits : (at : Place) (text : List ℕ) → Fits enums (literal_typed at text)
  literal_fits at text =
      let literal : flat.Expr = flat.Literal (number_of text).bits (fill_of_number (number_of text)) in
      record {
        is_type = if_each (λ (t : Ty). IsType enums t) (fills_alone text) _ _ tt tt;
        runs = if_told (λ (t : Ty). Runs t literal) (fills_alone text) _ _
            (λ is. record { width = (fills_bit text is).width; sign = (fills_bit text is).sign }) (λ isnt. record { width = refl; sign = refl });
      }

  pub time_fits : (s : Scale) (at : Place) (n : ℕ) → Fits enums (time_typed s at n)
  time_fits s at n = record { is_type = tt; runs = record { width = length-symbols_of 64 _ 0; sign = refl } }
