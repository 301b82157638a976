-- What stands at a place of a list.
use Rattle.std.proofs.Common.{◌≡◌, ℕ, zero, suc, ◌<◌, ◌≤◌, Bool, true, false, List, [], ◌∷◌, ◌++◌, Option, Some, None, length, map, slice_get, slice_set, get_or, ◌⊎◌, inl, inr, refl, sym, ap, arith}

-- the same of a value that is there
pub some_same : {A : Type 0} {x y : A} → Some x ≡ Some y → x ≡ y
some_same h = cc

-- there is no value in nothing
pub none_some : {A B : Type 0} {x : A} → None ≡ Some x → B
none_some h = absurd (nothing h)
  where
    nothing : {A : Type 0} {x : A} → None ≡ Some x → ⊥
    nothing h = cc

-- a test that is both
pub both : {B : Type 0} {b : Bool} → b ≡ true → b ≡ false → B
both h k = absurd (never h k)
  where
    never : {b : Bool} → b ≡ true → b ≡ false → ⊥
    never h k = cc

-- a test that is not true
pub not_true : (b : Bool) → (b ≡ true → ⊥) → b ≡ false
not_true true h = absurd (h refl)
not_true false h = refl

-- what stands at a place stands there in a longer list
pub get_front : {A : Type 0} (xs ys : List A) (k : ℕ) (x : A) → slice_get xs k ≡ Some x → slice_get (xs ++ ys) k ≡ Some x
get_front [] ys k x h = none_some h
get_front (z ∷ xs) ys zero x h = h
get_front (z ∷ xs) ys (suc k) x h = get_front xs ys k x h

-- the last one
pub get_last : {A : Type 0} (xs : List A) (x : A) → slice_get (xs ++ x ∷ []) (length xs) ≡ Some x
get_last [] x = refl
get_last (z ∷ xs) x = get_last xs x

-- what stands in a list with one more stood there, or is that one
pub get_split : {A : Type 0} (xs : List A) (y : A) (k : ℕ) (x : A) → slice_get (xs ++ y ∷ []) k ≡ Some x → (slice_get xs k ≡ Some x) ⊎ ((k ≡ length xs) × (y ≡ x))
get_split [] y zero x h = inr (refl, some_same h)
get_split [] y (suc k) x h = none_some h
get_split (z ∷ xs) y zero x h = inl h
get_split (z ∷ xs) y (suc k) x h = after (get_split xs y k x h)
  where
    after : (slice_get xs k ≡ Some x) ⊎ ((k ≡ length xs) × (y ≡ x)) → (slice_get xs k ≡ Some x) ⊎ ((suc k ≡ suc (length xs)) × (y ≡ x))
    after (inl g) = inl g
    after (inr g) = inr (ap suc g.0, g.1)

-- a place that is set
pub get_set : {A : Type 0} (xs : List A) (i : ℕ) (x y : A) → slice_get xs i ≡ Some x → slice_get (slice_set xs i y) i ≡ Some y
get_set [] i x y h = none_some h
get_set (z ∷ xs) zero x y h = refl
get_set (z ∷ xs) (suc i) x y h = get_set xs i x y h

-- any other place
pub get_set-other : {A : Type 0} (xs : List A) (i k : ℕ) (y : A) → (k ≡ i → ⊥) → slice_get (slice_set xs i y) k ≡ slice_get xs k
get_set-other [] i k y h = refl
get_set-other (z ∷ xs) zero zero y h = absurd (h refl)
get_set-other (z ∷ xs) zero (suc k) y h = refl
get_set-other (z ∷ xs) (suc i) zero y h = refl
get_set-other (z ∷ xs) (suc i) (suc k) y h = get_set-other xs i k y (λ e. h (ap suc e))

-- a place that is set to what stands there
pub set_same : {A : Type 0} (xs : List A) (i : ℕ) (x : A) → slice_get xs i ≡ Some x → slice_set xs i x ≡ xs
set_same [] i x h = refl
set_same (z ∷ xs) zero x h = ap (λ y. y ∷ xs) (sym (some_same h))
set_same (z ∷ xs) (suc i) x h = ap (λ ys. z ∷ ys) (set_same xs i x h)

pub length-set : {A : Type 0} (xs : List A) (i : ℕ) (x : A) → length (slice_set xs i x) ≡ length xs
length-set [] i x = refl
length-set (z ∷ xs) zero x = refl
length-set (z ∷ xs) (suc i) x = ap suc (length-set xs i x)

pub get_map : {A B : Type 0} (f : A → B) (xs : List A) (k : ℕ) (x : A) → slice_get xs k ≡ Some x → slice_get (map f xs) k ≡ Some (f x)
get_map f [] k x h = none_some h
get_map f (z ∷ xs) zero x h = ap (λ y. Some (f y)) (some_same h)
get_map f (z ∷ xs) (suc k) x h = get_map f xs k x h

pub map_set : {A B : Type 0} (f : A → B) (xs : List A) (k : ℕ) (y : A) → map f (slice_set xs k y) ≡ slice_set (map f xs) k (f y)
map_set f [] k y = refl
map_set f (z ∷ xs) zero y = refl
map_set f (z ∷ xs) (suc k) y = ap (λ ws. f z ∷ ws) (map_set f xs k y)

-- what stands at a place, as a default tells
pub get_is : {A : Type 0} (xs : List A) (k : ℕ) (x : A) → k < length xs → x ≡ get_or xs k x → slice_get xs k ≡ Some x
get_is [] k x h e = absurd (omega arith)
get_is (z ∷ xs) zero x h e = ap Some (sym e)
get_is (z ∷ xs) (suc k) x h e = get_is xs k x (omega arith) e

-- nothing stands past the end
pub get_past : {A : Type 0} (xs : List A) (k : ℕ) → length xs ≤ k → slice_get xs k ≡ None
get_past [] k h = refl
get_past (z ∷ xs) zero h = absurd (omega arith)
get_past (z ∷ xs) (suc k) h = get_past xs k (omega arith)

-- something stands within
pub get_there : {A : Type 0} (xs : List A) (k : ℕ) → k < length xs → (x : A) × (slice_get xs k ≡ Some x)
get_there [] k h = absurd (omega arith)
get_there (z ∷ xs) zero h = (z, refl)
get_there (z ∷ xs) (suc k) h = get_there xs k (omega arith)

pub get_within : {A : Type 0} (xs : List A) (k : ℕ) (x : A) → slice_get xs k ≡ Some x → k < length xs
get_within [] k x h = none_some h
get_within (z ∷ xs) zero x h = omega arith
get_within (z ∷ xs) (suc k) x h = let g : k < length xs = get_within xs k x h in omega (arith, g)

-- there is a value, or there is none
pub by_option : {A : Type 0} (o : Option A) → ((x : A) × (o ≡ Some x)) ⊎ (o ≡ None)
by_option None = inr refl
by_option (Some x) = inl (x, refl)

-- a test holds, or does not
pub by_test : (b : Bool) → (b ≡ true) ⊎ (b ≡ false)
by_test true = inl refl
by_test false = inr refl
