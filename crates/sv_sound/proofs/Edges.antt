-- A value that stays makes no edge of a clocking event.
use Rattle.std.proofs.Common.{ℕ, ◌≡◌, List, [], ◌∷◌, Option, None, Some, Bool, true, false, refl, ap, ◌∙◌}
use Rattle.std.specs.Prelude.{not, ◌&&◌}
use Rattle.std.proofs.lemmas.Bool.{eq-eqb}
use Rattle.sv_value.specs.declared.word.Sym.{Sym}
use Rattle.sv_value.specs.declared.word.Sym.TheVariants.{Zero, One, X, Z}
use Rattle.sv_value.specs.declared.number.Key.{Key}
use Rattle.sv_value.specs.declared.val.Val.{Val}
use Rattle.sv_value.specs.declared.val.Val.TheVariants as val
use Rattle.sv_value.specs.Operators.{is_true, all_same, same_symbol, one_bit, bit_of}
use Rattle.sv_flat.specs.declared.process.Edge.{Edge}
use Rattle.sv_flat.specs.declared.process.Edge.TheVariants.{Change, Posedge, Negedge, Trigger}
use Rattle.sv_flat.specs.Eval.{same_bytes, same_reference}
use Rattle.sv_flat.specs.Woken.{makes, rises, falls, least_symbol, same_values}

no_rise : (s : Sym) → rises s s ≡ false
no_rise Zero = refl
no_rise One = refl
no_rise X = refl
no_rise Z = refl

no_fall : (s : Sym) → falls s s ≡ false
no_fall Zero = refl
no_fall One = refl
no_fall X = refl
no_fall Z = refl

-- ---- a value is the same as itself

same_symbol_self : (s : Sym) → same_symbol s s ≡ true
same_symbol_self Zero = refl
same_symbol_self One = refl
same_symbol_self X = refl
same_symbol_self Z = refl

all_same_self : (ss : List Sym) → all_same ss ss ≡ true
all_same_self [] = refl
all_same_self (s ∷ ss) = ap (λ (b : Bool). b && all_same ss ss) (same_symbol_self s) ∙ all_same_self ss

same_bytes_self : (t : List ℕ) → same_bytes t t ≡ true
same_bytes_self [] = refl
same_bytes_self (x ∷ xs) = ap (λ (b : Bool). b && same_bytes xs xs) (eq-eqb x x refl) ∙ same_bytes_self xs

same_reference_self : (k : Option Key) → same_reference k k ≡ true
same_reference_self None = refl
same_reference_self (Some k) = eq-eqb k.0 k.0 refl

pub same_self : (x : Val) → same_values x x ≡ true
same_self (val.Bits v) = all_same_self v.symbols
same_self (val.Text t) = ap (λ (b : Bool). is_true (one_bit (bit_of b))) (same_bytes_self t)
same_self (val.Object k) = ap (λ (b : Bool). is_true (one_bit (bit_of b))) (same_reference_self k)
same_self (val.Event k) = ap (λ (b : Bool). is_true (one_bit (bit_of b))) (same_reference_self (Some k))

-- ---- so it makes no edge

pub makes_none : (g : Edge) (x : Val) → makes g x x ≡ false
makes_none Change x = ap not (same_self x)
makes_none Posedge x = no_rise (least_symbol x)
makes_none Negedge x = no_fall (least_symbol x)
makes_none Trigger x = refl
