-- Filters.
use Rattle.std.proofs.Common.{◌≡◌, List, [], ◌∷◌, Bool, true, false, cond, refl, ap, ◌∙◌, sym, filter}

-- two filters one after the other
pub filters_swap : {A : Type 0} (f g : A → Bool) (xs : List A) → filter f (filter g xs) ≡ filter g (filter f xs)
filters_swap f g [] = refl
filters_swap {A} f g (x ∷ xs) = outer f (filter g xs) (g x) ∙ both (f x) (g x) (filter f (filter g xs)) (filter g (filter f xs)) (filters_swap f g xs) ∙ sym (outer g (filter f xs) (f x))
  where
    outer : (h : A → Bool) (ys : List A) (b : Bool) → filter h (cond b (x ∷ ys) ys) ≡ cond b (cond (h x) (x ∷ filter h ys) (filter h ys)) (filter h ys)
    outer h ys true = refl
    outer h ys false = refl

    both : (a b : Bool) (ys zs : List A) → ys ≡ zs → cond b (cond a (x ∷ ys) ys) ys ≡ cond a (cond b (x ∷ zs) zs) zs
    both true true ys zs h = ap (λ (l : List A). x ∷ l) h
    both true false ys zs h = h
    both false true ys zs h = h
    both false false ys zs h = h
