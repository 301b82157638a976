-- A part of a part of a list.
use Rattle.std.proofs.Common.{◌≡◌, ℕ, ◌+◌, ◌-◌, ◌≤◌, List, take, drop, length, sym, ap, ◌∙◌, arith, take-take, drop-drop, length-take}
use Rattle.std.proofs.lemmas.List.{drop-take}

take-drop_within : (low from len n : ℕ) (xs : List ℕ) → from + len ≤ n → take len (drop (low + from) xs) ≡ take len (drop from (take n (drop low xs)))
take-drop_within low from len n xs h =
    let ys = drop low xs in
    let split : n ≡ from + (n - from) = omega arith in
    ap (take len) (sym (drop-drop from low xs))
    ∙ sym (take-take len (n - from) (drop from ys) (omega arith))
    ∙ ap (take len) (sym (drop-take from (n - from) ys))
    ∙ ap (λ k. take len (drop from (take k ys))) (sym split)

pub part_of_part : (low from len n : ℕ) (xs ys zs : List ℕ) → take n (drop low xs) ≡ ys → zs ≡ xs → from + len ≤ length ys → take len (drop (low + from) zs) ≡ take len (drop from ys)
part_of_part low from len n xs ys zs is same within =
    let short : length ys ≤ n = rw (← is, length-take) (omega arith) in
    ap (λ (l : List ℕ). take len (drop (low + from) l)) same ∙ take-drop_within low from len n xs (omega arith) ∙ ap (λ (l : List ℕ). take len (drop from l)) is
