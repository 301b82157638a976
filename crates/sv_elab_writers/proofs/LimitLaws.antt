-- What is counted, one item of a list after another.
use Rattle.std.proofs.Common.{◌≡◌, ℕ, ◌+◌, ◌<◌, List, ◌∷◌, ◌++◌, length, get_or, drop, sym, ap, ◌∙◌, append_assoc}
use Rattle.std.proofs.lemmas.List.{drop_more}

module _ {S X B R : Type 0} (count : S → List B → R) (all : List X → List B) (one : X → List B) (first : (x : X) (xs : List X) → all (x ∷ xs) ≡ one x ++ all xs) where
  from_here : (xs : List X) (i : ℕ) (x : X) → i < length xs → get_or xs i x ≡ x → all (drop i xs) ≡ one x ++ all (drop (i + 1) xs)
  from_here xs i x within is =
      ap all (drop_more xs i x within ∙ ap (λ y. y ∷ drop (i + 1) xs) is) ∙ first x (drop (i + 1) xs)

  and_more : (xs : List X) (i : ℕ) (x : X) (ts : List B) → i < length xs → get_or xs i x ≡ x
      → all (drop i xs) ++ ts ≡ one x ++ (all (drop (i + 1) xs) ++ ts)
  and_more xs i x ts within is = ap (λ l. l ++ ts) (from_here xs i x within is) ∙ append_assoc (one x) (all (drop (i + 1) xs)) ts

  -- one more is counted, and others stand behind the list
  pub one_counted : (xs : List X) (i : ℕ) (x : X) (n m : S) → i < length xs → get_or xs i x ≡ x
      → ((ts : List B) → count n (one x ++ ts) ≡ count m ts)
      → (ts : List B) → count m (all (drop (i + 1) xs) ++ ts) ≡ count n (all (drop i xs) ++ ts)
  one_counted xs i x n m within is step ts =
      sym (step (all (drop (i + 1) xs) ++ ts)) ∙ ap (count n) (sym (and_more xs i x ts within is))

  -- one more passes a limit
  pub one_stops : (xs : List X) (i : ℕ) (x : X) (n : S) (r : R) → i < length xs → get_or xs i x ≡ x
      → ((ts : List B) → count n (one x ++ ts) ≡ r) → (ts : List B) → count n (all (drop i xs) ++ ts) ≡ r
  one_stops xs i x n r within is step ts = ap (count n) (and_more xs i x ts within is) ∙ step (all (drop (i + 1) xs) ++ ts)

  -- one more is counted, and nothing stands behind the list
  pub last_counted : (xs : List X) (i : ℕ) (x : X) (n m : S) → i < length xs → get_or xs i x ≡ x
      → ((ts : List B) → count n (one x ++ ts) ≡ count m ts) → count m (all (drop (i + 1) xs)) ≡ count n (all (drop i xs))
  last_counted xs i x n m within is step =
      sym (step (all (drop (i + 1) xs))) ∙ ap (count n) (sym (from_here xs i x within is))

  -- one more passes a limit
  pub last_stops : (xs : List X) (i : ℕ) (x : X) (n : S) (r : R) → i < length xs → get_or xs i x ≡ x
      → ((ts : List B) → count n (one x ++ ts) ≡ r) → count n (all (drop i xs)) ≡ r
  last_stops xs i x n r within is step = ap (count n) (from_here xs i x within is) ∙ step (all (drop (i + 1) xs))
