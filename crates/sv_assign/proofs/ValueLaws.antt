-- Vectors that are of an integral type already.
use Rattle.std.proofs.Common.{ℕ, ◌≡◌, ◌∙◌, Bool, true, false, List, refl, ap, sym, length, map}
use Rattle.std.specs.Prelude.{if◌then◌else◌}
use Rattle.sv_value.specs.declared.word.Sym.{Sym}
use Rattle.sv_value.specs.declared.val.Integral.{Integral}
use Rattle.sv_value.specs.Vector.{Vector, vector, is_known, resized, two_state}
use Rattle.sv_value.proofs.Laws.{resized_same, two_state_known}
use Rattle.sv_flat.specs.Eval.{as_integral}

-- at its own width and with its own sign it stays
own : (v : Vector) (w : ℕ) (s : Bool) → length v.symbols ≡ w → v.signed ≡ s → v ≡ vector s (resized w (vector v.signed v.symbols))
own v w s width sign =
    ap (λ (t : Bool). vector t v.symbols) sign ∙ sym (ap (λ (xs : List Sym). vector s xs) (resized_same v))
    ∙ ap (λ (n : ℕ). vector s (resized n v)) width

-- so it does where the type has four states
pub stays_in_four : (t : Integral) (v : Vector) → length v.symbols ≡ t.width → v.signed ≡ t.signed → t.four_state ≡ true → v ≡ as_integral t v
stays_in_four t v width sign four =
    own v t.width t.signed width sign
    ∙ ap (λ (b : Bool). vector t.signed (resized t.width (vector v.signed (if b then v.symbols else map two_state v.symbols)))) (sym four)

-- and where each symbol is 0 or 1
pub stays_known : (t : Integral) (v : Vector) → length v.symbols ≡ t.width → v.signed ≡ t.signed → is_known v.symbols ≡ true → v ≡ as_integral t v
stays_known t v width sign known =
    own v t.width t.signed width sign
    ∙ ap (λ (xs : List Sym). vector t.signed (resized t.width (vector v.signed xs))) (sym (kept t.four_state v.symbols known))
  where
    kept : (b : Bool) (xs : List Sym) → is_known xs ≡ true → (if b then xs else map two_state xs) ≡ xs
    kept true xs h = refl
    kept false xs h = two_state_known xs h
