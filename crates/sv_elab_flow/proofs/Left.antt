-- What is left of a list.
use Rattle.std.proofs.Common.{◌≡◌, ◌∙◌, ℕ, ◌+◌, ◌<◌, List, ◌∷◌, length, drop, get_or, ap}
use Rattle.std.proofs.lemmas.List.{drop_more}

-- a list from one of its items on
pub first_left : {A : Type 0} (xs : List A) (i : ℕ) (x : A) → i < length xs → get_or xs i x ≡ x → drop i xs ≡ x ∷ drop (i + 1) xs
first_left xs i x within is = drop_more xs i x within ∙ ap (λ y. y ∷ drop (i + 1) xs) is
