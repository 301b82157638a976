-- The values of several targets (IEEE 1800-2017, 11.4.12).
use Rattle.std.proofs.Common.{◌≡◌, ℕ, ◌+◌, ◌-◌, ◌<◌, ◌≤◌, List, [], ◌∷◌, ◌++◌, length, drop, take, get_or, ap, sym, ◌∙◌, append_assoc, arith}
use Rattle.std.specs.Prelude.{sum_by, max}
use Rattle.std.proofs.lemmas.List.{drop_more}
use Rattle.std.proofs.lemmas.List.Sums.{sum_by-drop_more, sum_by-take-drop}
use Rattle.sv_value.specs.declared.val.Val.{Val}
use Rattle.sv_value.specs.declared.val.Val.TheVariants as val
use Rattle.sv_value.specs.Vector.{Vector, unsigned}
use Rattle.sv_flat.specs.declared.target.Lvalue.{Lvalue}
use Rattle.sv_flat.specs.Targets.{converted, spread, target_width}

-- the symbols below a target, from those below it and it
pub below_next : (ls : List Lvalue) (i : ℕ) (l : Lvalue) (n w : ℕ) → i < length ls → get_or ls i l ≡ l → n ≡ sum_by target_width (drop i ls) → w ≡ target_width l
    → n - w ≡ sum_by target_width (drop (i + 1) ls)
below_next ls i l n w h is e width =
    let next : sum_by target_width (drop i ls) ≡ target_width (get_or ls i l) + sum_by target_width (drop (i + 1) ls) = sum_by-drop_more target_width ls i l h in
    let own : target_width (get_or ls i l) ≡ target_width l = ap target_width is in
    omega (arith, next, own)

-- a target is no wider than what is left
pub next_fits : (ls : List Lvalue) (i : ℕ) (l : Lvalue) (n w : ℕ) → i < length ls → get_or ls i l ≡ l → n ≡ sum_by target_width (drop i ls) → w ≡ target_width l → w ≤ n
next_fits ls i l n w h is e width =
    let next : sum_by target_width (drop i ls) ≡ target_width (get_or ls i l) + sum_by target_width (drop (i + 1) ls) = sum_by-drop_more target_width ls i l h in
    let own : target_width (get_or ls i l) ≡ target_width l = ap target_width is in
    omega (arith, next, own)

-- and what is left no wider than the whole
pub next_within : (ls : List Lvalue) (i : ℕ) (l : Lvalue) (n w m : ℕ) → i < length ls → get_or ls i l ≡ l → n ≡ sum_by target_width (drop i ls) → w ≡ target_width l
    → (n - w) + target_width l ≤ max (sum_by target_width ls) m
next_within ls i l n w m h is e width =
    let fits : w ≤ n = next_fits ls i l n w h is e width in
    let whole : sum_by target_width (take i ls) + sum_by target_width (drop i ls) ≡ sum_by target_width ls = sum_by-take-drop target_width ls i in
    omega (arith, fits, whole)

-- one target more
pub spread_more : (ls : List Lvalue) (i : ℕ) (l : Lvalue) (v : Vector) (xs : List Val) (x : Val) (n : ℕ) → i < length ls → get_or ls i l ≡ l
    → n ≡ sum_by target_width (drop (i + 1) ls)
    → x ≡ converted l.ty (target_width l) (val.Bits (unsigned (take (target_width l) (drop n v.symbols))))
    → (xs ++ x ∷ []) ++ spread (drop (i + 1) ls) v ≡ xs ++ spread (drop i ls) v
spread_more ls i l v xs x n h is e given =
    append_assoc xs (x ∷ []) (spread (drop (i + 1) ls) v)
    ∙ ap (λ (y : Val). xs ++ (y ∷ spread (drop (i + 1) ls) v))
    (given ∙ ap (λ (k : ℕ). converted l.ty (target_width l) (val.Bits (unsigned (take (target_width l) (drop k v.symbols))))) e)
    ∙ ap (λ (ms : List Lvalue). xs ++ spread ms v) (sym (drop_more ls i l h ∙ ap (λ (m : Lvalue). m ∷ drop (i + 1) ls) is))
