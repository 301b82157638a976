use Rattle.std.proofs.Common.{ℕ, ◌≡◌, ◌∙◌, ap, sym, Bool, arith, replicate}
use Rattle.std.proofs.lemmas.Nat.Bits.{bit_at-zero}
use Rattle.sv_value.specs.declared.word.TheConstants.{WIDEST}
use Rattle.sv_value.specs.declared.word.Sym.TheVariants.{Zero}
use Rattle.sv_value.specs.Vector.{symbols_of}
use Rattle.sv_value.proofs.Words.{all_x-words, replicate-symbols_of, same_vector, symbol_cong}
use Rattle.sv_flat.specs.State.{unknown_symbol}
use Rattle.sv_flat.proofs.object.first_bits.Goals as goal

all_zero : (w : ℕ) → symbols_of w 0 0 ≡ replicate w Zero
all_zero w = sym (replicate-symbols_of Zero w 0 0 (λ i p. symbol_cong (sym (bit_at-zero i)) (sym (bit_at-zero i))))

pub returns-then-ty : goal.returns-then-ty
returns-then-ty c =
    c.truncated.ensures
    ∙ same_vector (all_x-words c.args.ty.width WIDEST (omega arith) ∙ ap (λ (b : Bool). replicate c.args.ty.width (unknown_symbol b)) (sym c.if-ty.true))

pub returns : goal.returns
returns c =
    c.truncated-2.ensures
    ∙ same_vector (all_zero c.args.ty.width ∙ ap (λ (b : Bool). replicate c.args.ty.width (unknown_symbol b)) (sym c.if-ty.false))
