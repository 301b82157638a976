-- Vectors at other widths.
use Rattle.std.proofs.Common.{◌≡◌, ℕ, zero, suc, ◌*◌, ◌^◌, subst, ◌+◌, ◌-◌, ◌<◌, ◌≤◌, Bool, true, List, [], ◌∷◌, ◌++◌, length, take, drop, replicate, refl, sym, ap, ◌∙◌, arith}
use Rattle.std.proofs.lemmas.List.{take-replicate, take-append-le, length-take, length-append, length-replicate}
use Rattle.std.proofs.Math.Seq.{take-append-add}
use Rattle.sv_value.specs.declared.word.Sym.{Sym}
use Rattle.sv_value.specs.Vector.{Vector, vector, unsigned, extended, resized}
use Rattle.sv_value.specs.Vector.{HasWords, symbols_of}
use Rattle.sv_value.specs.Vector.{is_known, number}
use Rattle.sv_value.specs.declared.word.Sym.TheVariants.{X}
use Rattle.sv_value.proofs.Words.{known-words, value-words, all_x-words, is_known-unknown}
use Rattle.std.proofs.lemmas.Grind.{pow_more}
use Rattle.std.proofs.lemmas.Bool.{cond-true, cond-false, ne_eqb}
use Rattle.std.proofs.lemmas.Bool.Decides.{nat_tests}
use Rattle.std.specs.Prelude.{nat_le}
use Rattle.sv_value.proofs.Laws.{resized_same}
use Rattle.sv_flat.specs.Eval.{in_context, log_from, log_of, int_of}

-- copies of a symbol, by its sign
pub copies_is : (w : ℕ) (s : Sym) → 1 ≤ w → resized w (vector true (s ∷ [])) ≡ replicate w s
copies_is zero s h = refl
copies_is (suc n) s h = ap (λ (xs : List Sym). s ∷ xs) (take-replicate n (suc n) s (omega arith))

-- the lowest symbols
pub extended_cut : (w : ℕ) (s : Sym) (xs : List Sym) → w ≤ length xs → take w (drop 0 xs) ≡ extended w s xs
extended_cut w s xs h = sym (take-append-le w xs (replicate w s) h)

-- symbols above those that are there
pub extended_more : (w : ℕ) (s : Sym) (xs : List Sym) → length xs < w → xs ++ replicate (w - length xs) s ≡ extended w s xs
extended_more w s xs h =
    let parts : length xs + (w - length xs) ≡ w = omega arith in
    sym (ap (λ (n : ℕ). take n (xs ++ replicate w s)) (sym parts) ∙ take-append-add xs (replicate w s) (w - length xs)
    ∙ ap (λ (ys : List Sym). xs ++ ys) (take-replicate (w - length xs) w s (omega arith)))

-- how many symbols there are
pub length-extended : (w : ℕ) (s : Sym) (xs : List Sym) → length (extended w s xs) ≡ w
length-extended w s xs = simp (length-take, length-append, length-replicate) (omega arith)

-- at its own width it stays
pub resized_extended : (w : ℕ) (s : Sym) (xs : List Sym) → resized w (unsigned (extended w s xs)) ≡ extended w s xs
resized_extended w s xs =
    ap (λ (n : ℕ). resized n (unsigned (extended w s xs))) (sym (length-extended w s xs)) ∙ resized_same (unsigned (extended w s xs))

-- so it does in a context of its own
pub own_context : (v : Vector) (w : ℕ) (s : Bool) → length v.symbols ≡ w → v.signed ≡ s → v ≡ in_context w s v
own_context v w s width sign =
    ap (λ (t : Bool). vector t v.symbols) sign ∙ sym (ap (λ (xs : List Sym). vector s xs) (resized_same (vector s v.symbols)))
    ∙ ap (λ (n : ℕ). vector s (resized n (vector s v.symbols))) width

-- ---- `$clog2`

-- a power that is no less ends the search
pub log_ends : (w n k : ℕ) → n ≤ 2 ^ k → log_from w n k ≡ k
log_ends zero n k h = refl
log_ends (suc w) n k h = cond-true (nat_le n (2 ^ k)) k (log_from w n (k + 1)) (grind (arith, nat_tests))

-- a power that is less
pub log_goes_on : (w n k : ℕ) → 2 ^ k < n → log_from (suc w) n k ≡ log_from w n (k + 1)
log_goes_on w n k h = cond-false (nat_le n (2 ^ k)) k (log_from w n (k + 1)) (grind (arith, nat_tests))

-- the logarithm of a known number
pub log_known : (v : Vector) {n u : ℕ} → HasWords v.symbols n u → u ≡ 0 → int_of (log_from (length v.symbols) n 0) ≡ log_of v
log_known v {n} {u} h e =
    sym (cond-true (is_known v.symbols) (int_of (log_from (length v.symbols) (number v.symbols) 0)) (vector true (replicate 32 X)) (known-words h e)
    ∙ ap (λ (m : ℕ). int_of (log_from (length v.symbols) m 0)) (value-words h))

-- x where a symbol is not known
pub log_unknown : (v : Vector) {n u : ℕ} → HasWords v.symbols n u → (u ≡ 0 → ⊥) → vector true (symbols_of 32 0 (2 ^ 64 - 1)) ≡ log_of v
log_unknown v {n} {u} h e =
    ap (vector true) (all_x-words 32 64 (omega arith))
    ∙ sym (cond-false (is_known v.symbols) (int_of (log_from (length v.symbols) (number v.symbols) 0)) (vector true (replicate 32 X)) (is_known-unknown h ∙ ne_eqb u 0 e))

-- the search so far, one place further
pub log_next : (w n k p : ℕ) → k < w → p ≡ 2 ^ k → p < n → log_from (w - k) n k ≡ log_from (w - (k + 1)) n (k + 1)
log_next w n k p h e l =
    let more : w - k ≡ suc (w - (k + 1)) = omega arith in
    ap (λ (m : ℕ). log_from m n k) more ∙ log_goes_on (w - (k + 1)) n k (subst (λ (m : ℕ). m < n) e l)

-- the next power of two
pub next_power : (p k : ℕ) → p ≡ 2 ^ k → p * 2 ≡ 2 ^ (k + 1)
next_power p k e = ap (λ (m : ℕ). m * 2) e ∙ sym (pow_more 2 k)
