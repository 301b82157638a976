-- So many copies of one variable.
use Rattle.std.proofs.Common.{arith, ◌≡◌, ◌∙◌, ℕ, zero, suc, ◌+◌, ◌-◌, ◌^◌, ◌≢◌, min, List, [], ◌∷◌, ◌++◌, length, drop, get_or, ◌<◌, ◌≤◌, refl, sym, ap, append_assoc, append-nil, add-one}
use Rattle.std.specs.Prelude.{replicate, flat_map}
use Rattle.std.proofs.lemmas.List.{drop_more, drop_all}

-- none
pub copies_none : {A : Type 0} (xs : List A) (x : A) → xs ≡ xs ++ replicate 0 x
copies_none xs x = sym (append-nil xs)

-- one more
replicate_last : {A : Type 0} (n : ℕ) (x : A) → replicate n x ++ x ∷ [] ≡ replicate (suc n) x
replicate_last zero x = refl
replicate_last (suc n) x = ap (λ xs. x ∷ xs) (replicate_last n x)

pub copies_more : {A : Type 0} (xs ys zs : List A) (n : ℕ) (x : A) → ys ≡ xs ++ replicate n x → zs ≡ ys ++ x ∷ [] → zs ≡ xs ++ replicate (n + 1) x
copies_more xs ys zs n x a b =
    b ∙ ap (λ l. l ++ x ∷ []) a ∙ append_assoc xs (replicate n x) (x ∷ [])
    ∙ ap (λ l. xs ++ l) (replicate_last n x ∙ sym (ap (λ k. replicate k x) (add-one n)))

-- a size that is told from others
pub size_told : (n size : ℕ) → n ≡ min size (2 ^ 32 - 1) → n ≢ 2 ^ 32 - 1 → n ≡ size
size_told n size is ne = omega arith

-- ---- lists, one part after another

-- one more part
pub parts_next : {A B : Type 0} (f : A → List B) (xs : List A) (i : ℕ) (x : A) (before now whole : List B) → i < length xs → get_or xs i x ≡ x
    → now ≡ before ++ f x → before ++ flat_map f (drop i xs) ≡ whole → now ++ flat_map f (drop (i + 1) xs) ≡ whole
parts_next f xs i x before now whole within is made so_far =
    ap (λ l. l ++ flat_map f (drop (i + 1) xs)) made ∙ append_assoc before (f x) (flat_map f (drop (i + 1) xs))
    ∙ sym (ap (λ ys. before ++ flat_map f ys) (drop_more xs i x within ∙ ap (λ y. y ∷ drop (i + 1) xs) is)) ∙ so_far

-- all parts
pub parts_done : {A B : Type 0} (f : A → List B) (xs : List A) (i : ℕ) (done whole : List B) → length xs ≤ i
    → done ++ flat_map f (drop i xs) ≡ whole → done ≡ whole
parts_done f xs i done whole end so_far = sym (append-nil done) ∙ sym (ap (λ ys. done ++ flat_map f ys) (drop_all i xs end)) ∙ so_far
