-- Lists of choices, read part by part.
use Rattle.std.proofs.Common.{ℕ, ◌≡◌, ◌+◌, ◌-◌, ◌<◌, ◌≤◌, ◌≢◌, zero, suc, List, [], ◌∷◌, ◌++◌, Option, None, Some, Bool, true, false, refl, ap, sym, ◌∙◌, arith, length, drop, take}
use Rattle.std.specs.Prelude.{option_map, ◌^◌, ◌==◌}
use Rattle.std.specs.List.{prefix_len}
use Rattle.std.proofs.lemmas.List.Sums.{prefix_len-le-length}
use Rattle.std.proofs.lemmas.List.{append_assoc, take_rest}
use Rattle.sv_words.specs.Words.{between_commas, with_first, choices_of, number_within}
use Rattle.sv_words.specs.Parts.{is_no_comma}

pub within : (bs : List ℕ) → prefix_len is_no_comma bs ≤ length bs
within bs = prefix_len-le-length is_no_comma bs

-- a byte that is no comma
no_comma : (b : ℕ) (bs : List ℕ) → (b == 44) ≡ false → prefix_len is_no_comma (b ∷ bs) ≡ 1 + prefix_len is_no_comma bs
no_comma b bs e = rw e refl

-- a comma
at_comma : (b : ℕ) (bs : List ℕ) → (b == 44) ≡ true → prefix_len is_no_comma (b ∷ bs) ≡ 0
at_comma b bs e = rw e refl

goes_on : (b : ℕ) (bs : List ℕ) → (b == 44) ≡ false → between_commas (b ∷ bs) ≡ with_first b (between_commas bs)
goes_on b bs e = rw e refl

ends : (b : ℕ) (bs : List ℕ) → (b == 44) ≡ true → between_commas (b ∷ bs) ≡ [] ∷ between_commas bs
ends b bs e = rw e refl

one_part_by : (t : Bool) (b : ℕ) (bs : List ℕ) → (b == 44) ≡ t → (prefix_len is_no_comma bs ≡ length bs → between_commas bs ≡ bs ∷ [])
    → prefix_len is_no_comma (b ∷ bs) ≡ suc (length bs) → between_commas (b ∷ bs) ≡ (b ∷ bs) ∷ []
one_part_by true b bs e f h = absurd (omega (arith, h, at_comma b bs e))
one_part_by false b bs e f h = goes_on b bs e ∙ ap (with_first b) (f (omega (arith, h, no_comma b bs e)))

pub one_part : (bs : List ℕ) → prefix_len is_no_comma bs ≡ length bs → between_commas bs ≡ bs ∷ []
one_part [] h = refl
one_part (b ∷ bs) h = one_part_by (b == 44) b bs refl (one_part bs) h

two_parts_by : (t : Bool) (b : ℕ) (bs : List ℕ) → (b == 44) ≡ t
    → (prefix_len is_no_comma bs < length bs → between_commas bs ≡ take (prefix_len is_no_comma bs) bs ∷ between_commas (drop (suc (prefix_len is_no_comma bs)) bs))
    → (n : ℕ) → n ≡ prefix_len is_no_comma (b ∷ bs) → n < suc (length bs)
    → between_commas (b ∷ bs) ≡ take n (b ∷ bs) ∷ between_commas (drop (suc n) (b ∷ bs))
two_parts_by true b bs e f zero g h = ends b bs e
two_parts_by true b bs e f (suc n) g h = absurd (omega (arith, g, at_comma b bs e))
two_parts_by false b bs e f zero g h = absurd (omega (arith, g, no_comma b bs e))
two_parts_by false b bs e f (suc n) g h =
    let k : prefix_len is_no_comma bs ≡ n = omega (arith, g, no_comma b bs e) in
    goes_on b bs e ∙ ap (with_first b) (f (omega (arith, k, h)) ∙ ap (λ (m : ℕ). take m bs ∷ between_commas (drop (suc m) bs)) k)

-- the first part, and the others
two_parts : (bs : List ℕ) → prefix_len is_no_comma bs < length bs
    → between_commas bs ≡ take (prefix_len is_no_comma bs) bs ∷ between_commas (drop (suc (prefix_len is_no_comma bs)) bs)
two_parts [] h = absurd (omega arith)
two_parts (b ∷ bs) h = two_parts_by (b == 44) b bs refl (two_parts bs) (prefix_len is_no_comma (b ∷ bs)) refl h

pub part_and_rest : (bs : List ℕ) (n : ℕ) → n ≡ prefix_len is_no_comma bs → n ≢ length bs
    → between_commas bs ≡ take n bs ∷ between_commas (take (length bs - (n + 1)) (drop (n + 1) bs))
part_and_rest bs n e h =
    let suc_is : suc n ≡ n + 1 = omega arith in
    let k : prefix_len is_no_comma bs < length bs = omega (arith, e, h, within bs) in
    two_parts bs k ∙ ap (λ (m : ℕ). take m bs ∷ between_commas (drop (suc m) bs)) (sym e)
    ∙ ap (λ (r : List ℕ). take n bs ∷ between_commas r) (sym (take_rest bs (suc n)) ∙ ap (λ (m : ℕ). take (length bs - m) (drop m bs)) suc_is)

-- ---- the numbers of the parts

-- the numbers so far before those that are left
abbrev pub joined : List ℕ → Option (List ℕ) → Option (List ℕ)
joined ns rest = option_map (λ more. ns ++ more) rest

pub one_more : (ns : List ℕ) (n : ℕ) (p : List ℕ) (ps : List (List ℕ)) → number_within (2 ^ 32 - 1) p ≡ Some n
    → joined (ns ++ n ∷ []) (choices_of ps) ≡ joined ns (choices_of (p ∷ ps))
one_more ns n p ps e = rw e (by_rest (choices_of ps))
  where
    by_rest : (r : Option (List ℕ)) → joined (ns ++ n ∷ []) r ≡ joined ns (option_map (λ ms. n ∷ ms) r)
    by_rest None = refl
    by_rest (Some ms) = ap Some (append_assoc ns (n ∷ []) ms)

pub none_more : (p : List ℕ) (ps : List (List ℕ)) → number_within (2 ^ 32 - 1) p ≡ None → choices_of (p ∷ ps) ≡ None
none_more p ps e = rw e refl
