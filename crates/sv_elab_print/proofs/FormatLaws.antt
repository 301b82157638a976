-- Formats, from the left.
use Rattle.std.proofs.Common.{ℕ, zero, suc, ◌+◌, ◌<◌, ◌≡◌, List, [], ◌∷◌, ◌++◌, length, drop, get_or, Option, Some, None, replicate, refl, sym, ap, ◌∙◌, append_assoc, add-one, drop-cons}
use Rattle.sv_value.specs.declared.operator.Piece.{Piece}
use Rattle.sv_value.specs.declared.operator.Piece.TheVariants as piece
use Rattle.sv_names.specs.Formats.{blanks, flushed, before_field}
use Rattle.sv_elab_print.specs.Reading.{parts_behind, read_on, read_if}
use Rattle.sv_elab_print.specs.declared.formats.Reading.{Reading}

-- a byte behind others
pub one_more : (xs cs : List ℕ) (c : ℕ) → (xs ++ c ∷ []) ++ cs ≡ xs ++ c ∷ cs
one_more xs cs c = append_assoc xs (c ∷ []) cs

-- copies of a blank
pub blanks_are : (n : ℕ) → replicate n 32 ≡ blanks n
blanks_are zero = refl
blanks_are (suc n) = ap (λ (bs : List ℕ). 32 ∷ bs) (blanks_are n)

-- a field behind the plain text before it
pub field_behind : (done : List Piece) (plain : List ℕ) (s : Piece) (r : Option (List Piece))
    → parts_behind ((done ++ flushed plain []) ++ s ∷ []) r ≡ parts_behind done (before_field plain (Some s) r)
field_behind done plain s None = refl
field_behind done [] s (Some ss) = ap Some (append_assoc (done ++ []) (s ∷ []) ss ∙ append_assoc done [] (s ∷ ss))
field_behind done (c ∷ cs) s (Some ss) =
    ap Some (append_assoc (done ++ piece.Plain (c ∷ cs) ∷ []) (s ∷ []) ss ∙ append_assoc done (piece.Plain (c ∷ cs) ∷ []) (s ∷ ss))

-- one more byte of a format that is read
pub byte_read : (text : List ℕ) (i : ℕ) (r : Reading) (next : Option Reading) → i < length text
    → ((cs : List ℕ) → read_if next cs ≡ read_on r (get_or text i 0 ∷ cs)) → read_if next (drop (i + 1) text) ≡ read_on r (drop i text)
byte_read text i r next h so =
    so (drop (i + 1) text) ∙ ap (λ (j : ℕ). read_on r (get_or text i 0 ∷ drop j text)) (add-one i) ∙ sym (ap (read_on r) (drop-cons text i 0 h))
