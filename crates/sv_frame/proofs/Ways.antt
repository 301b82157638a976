-- Elements of lists, and ways of steps from routine to routine: each can be made so short that it visits none twice.
use Rattle.std.proofs.Common.{ℕ, zero, suc, ◌≡◌, ◌+◌, ◌<◌, ◌≤◌, List, [], ◌∷◌, ◌++◌, Bool, true, false, cond, refl, ap, subst, sym, ◌∙◌, arith, filter, map, inl, inr}
use Rattle.std.specs.Prelude.{◌⊎◌, flat_map, ◌==◌, ◌||◌, Contains}
use Rattle.std.proofs.lemmas.Bool.Decides.{nat_tests}
use Rattle.std.proofs.lemmas.List.Elements.{Contains-append_right}
use Rattle.sv_value.specs.declared.number.RoutineId.{RoutineId}

-- ---- elements of lists

-- x is an element
abbrev pub IsIn : {A : Type 0} → A → List A → Type 0
IsIn x [] = ⊥
IsIn x (y ∷ ys) = (x ≡ y) ⊎ IsIn x ys

pub in_left : {A : Type 0} (x : A) (xs ys : List A) → IsIn x xs → IsIn x (xs ++ ys)
in_left x [] ys h = absurd h
in_left x (y ∷ xs) ys (inl e) = inl e
in_left x (y ∷ xs) ys (inr h) = inr (in_left x xs ys h)

pub in_right : {A : Type 0} (x : A) (xs ys : List A) → IsIn x ys → IsIn x (xs ++ ys)
in_right x [] ys h = h
in_right x (y ∷ xs) ys h = inr (in_right x xs ys h)

pub in_flat_map : {A B : Type 0} (f : A → List B) (x : A) (y : B) (xs : List A) → IsIn x xs → IsIn y (f x) → IsIn y (flat_map f xs)
in_flat_map f x y [] k h = absurd k
in_flat_map f x y (z ∷ xs) (inl e) h = in_left y (f z) (flat_map f xs) (subst (λ u. IsIn y (f u)) e h)
in_flat_map f x y (z ∷ xs) (inr k) h = in_right y (f z) (flat_map f xs) (in_flat_map f x y xs k h)

pub in_filter : {A : Type 0} (f : A → Bool) (x : A) (xs : List A) → IsIn x xs → f x ≡ true → IsIn x (filter f xs)
in_filter f x [] k h = absurd k
in_filter f x (y ∷ xs) (inl e) h = subst (λ b. IsIn x (cond b (y ∷ filter f xs) (filter f xs))) (sym (ap f (sym e) ∙ h)) (inl e)
in_filter f x (y ∷ xs) (inr k) h = by_test (f y) (in_filter f x xs k h)
  where
    by_test : (b : Bool) → IsIn x (filter f xs) → IsIn x (cond b (y ∷ filter f xs) (filter f xs))
    by_test true i = inr i
    by_test false i = i

pub contained : {A : Type 0} (x : A) (xs : List A) → IsIn x xs → Contains xs x
contained x [] h = absurd h
contained x (y ∷ xs) (inl e) = (0, omega arith, sym e)
contained x (y ∷ xs) (inr h) = Contains-append_right (y ∷ []) xs x (contained x xs h)

pub in_map : {A B : Type 0} (f : A → B) (x : A) (xs : List A) → IsIn x xs → IsIn (f x) (map f xs)
in_map f x [] h = absurd h
in_map f x (y ∷ xs) (inl e) = inl (ap f e)
in_map f x (y ∷ xs) (inr h) = inr (in_map f x xs h)

pub from_append : {A : Type 0} (x : A) (xs ys : List A) → IsIn x (xs ++ ys) → IsIn x xs ⊎ IsIn x ys
from_append x [] ys h = inr h
from_append x (y ∷ xs) ys (inl e) = inl (inl e)
from_append x (y ∷ xs) ys (inr h) = by_part (from_append x xs ys h)
  where
    by_part : IsIn x xs ⊎ IsIn x ys → IsIn x (y ∷ xs) ⊎ IsIn x ys
    by_part (inl k) = inl (inr k)
    by_part (inr k) = inr k

-- the element from which another one comes
pub from_flat_map : {A B : Type 0} (f : A → List B) (y : B) (xs : List A) → IsIn y (flat_map f xs) → (x : A) × IsIn x xs × IsIn y (f x)
from_flat_map f y [] h = absurd h
from_flat_map {A} f y (z ∷ xs) h = by_part (from_append y (f z) (flat_map f xs) h) (λ k. from_flat_map f y xs k)
  where
    by_part : IsIn y (f z) ⊎ IsIn y (flat_map f xs) → (IsIn y (flat_map f xs) → (x : A) × IsIn x xs × IsIn y (f x)) → (x : A) × IsIn x (z ∷ xs) × IsIn y (f x)
    by_part (inl k) i = (z, inl refl, k)
    by_part (inr k) i = let r = i k in (r.0, inr r.1, r.2)

-- ---- numbers that are left

abbrev pub has : ℕ → List ℕ → Bool
has n [] = false
has n (m ∷ ms) = (n == m) || has n ms

-- one that is not listed
abbrev left_over : Bool → ℕ
left_over true = 0
left_over false = 1

-- how many numbers below n are not listed
abbrev pub free : ℕ → List ℕ → ℕ
free zero vs = 0
free (suc n) vs = left_over (has n vs) + free n vs

pub free_none : (n : ℕ) → free n [] ≡ n
free_none zero = refl
free_none (suc n) = let i = free_none n in omega (arith, i)

free_fewer : (n r : ℕ) (vs : List ℕ) → free n (r ∷ vs) ≤ free n vs
free_fewer zero r vs = omega arith
free_fewer (suc n) r vs = by_tests (n == r) (has n vs) (free_fewer n r vs)
  where
    by_tests : (a b : Bool) → free n (r ∷ vs) ≤ free n vs → left_over (a || b) + free n (r ∷ vs) ≤ left_over b + free n vs
    by_tests true true h = omega (arith, h)
    by_tests true false h = omega (arith, h)
    by_tests false true h = omega (arith, h)
    by_tests false false h = omega (arith, h)

pub free_less : (n r : ℕ) (vs : List ℕ) → r < n → has r vs ≡ false → free n (r ∷ vs) + 1 ≤ free n vs
free_less zero r vs l h = absurd (omega (arith, l))
free_less (suc n) r vs l h = by_test (n == r) refl (λ less. free_less n r vs less h)
  where
    by_test : (a : Bool) → (n == r) ≡ a → (r < n → free n (r ∷ vs) + 1 ≤ free n vs) → left_over ((n == r) || has n vs) + free n (r ∷ vs) + 1 ≤ left_over (has n vs) + free n vs
    by_test true e later =
        let same : n ≡ r = grind (arith, nat_tests) in
        let absent : has n vs ≡ false = ap (λ m. has m vs) same ∙ h in
        let first : left_over ((n == r) || has n vs) ≡ 0 = ap (λ b. left_over (b || has n vs)) e in
        let second : left_over (has n vs) ≡ 1 = ap left_over absent in
        let fewer = free_fewer n r vs in
        omega (arith, first, second, fewer)
    by_test false e later =
        let less : r < n = grind (arith, nat_tests) in
        let i = later less in
        let first : left_over ((n == r) || has n vs) ≡ left_over (has n vs) = ap (λ b. left_over (b || has n vs)) e in
        omega (arith, first, i)

-- ---- ways

-- what is one step from a routine
abbrev pub Steps : Type 1
Steps = RoutineId → RoutineId → Type 0

-- so many steps, through no routine of these
abbrev pub Path : Steps → List ℕ → ℕ → RoutineId → RoutineId → Type 0
Path near vs zero y z = (has y.0 vs ≡ false) × (y ≡ z)
Path near vs (suc k) y z = (has y.0 vs ≡ false) × (x : RoutineId) × near x y × Path near vs k x z

-- one step more
pub path_more : (near : Steps) (k : ℕ) (y z x : RoutineId) → Path near [] k y z → near x z → Path near [] (suc k) y x
path_more near zero y z x h i = (refl, x, subst (near x) (sym h.1) i, (refl, refl))
path_more near (suc k) y z x h i = (refl, h.1, h.2, path_more near k h.1 z x h.3 i)

-- wherever it leads through
path_free : (near : Steps) (vs : List ℕ) (k : ℕ) (y z : RoutineId) → Path near vs k y z → Path near [] k y z
path_free near vs zero y z h = (refl, h.1)
path_free near vs (suc k) y z h = (refl, h.1, h.2, path_free near vs k h.1 z h.3)

-- the end of a path after its last visit of a routine
pub record Leaves (near : Steps) (vs : List ℕ) (r z : RoutineId) : Type 0 where
  pub next : RoutineId
  pub step : near next r
  pub steps : ℕ
  pub path : Path near (r.0 ∷ vs) steps next z

pub same_routine : (x y : RoutineId) → (x.0 == y.0) ≡ true → x ≡ y
same_routine x y h = let e : x.0 ≡ y.0 = grind (arith, nat_tests) in λ i. record { 0 = e i }

pub last_visit : (near : Steps) (vs : List ℕ) (r : RoutineId) (k : ℕ) (x z : RoutineId) → Path near vs k x z → Path near (r.0 ∷ vs) k x z ⊎ ((z ≡ r) ⊎ Leaves near vs r z)
last_visit near vs r zero x z h = by_test (x.0 == r.0) refl
  where
    by_test : (b : Bool) → (x.0 == r.0) ≡ b → Path near (r.0 ∷ vs) zero x z ⊎ ((z ≡ r) ⊎ Leaves near vs r z)
    by_test true e = inr (inl (sym h.1 ∙ same_routine x r e))
    by_test false e = inl (ap (λ b. b || has x.0 vs) e ∙ h.0, h.1)
last_visit near vs r (suc k) x z h = by_rest (last_visit near vs r k h.1 z h.3)
  where
    by_test : Path near (r.0 ∷ vs) k h.1 z → (b : Bool) → (x.0 == r.0) ≡ b → Path near (r.0 ∷ vs) (suc k) x z ⊎ ((z ≡ r) ⊎ Leaves near vs r z)
    by_test p true e = inr (inr (record { next = h.1; step = subst (near h.1) (same_routine x r e) h.2; steps = k; path = p }))
    by_test p false e = inl (ap (λ b. b || has x.0 vs) e ∙ h.0, h.1, h.2, p)

    by_rest : Path near (r.0 ∷ vs) k h.1 z ⊎ ((z ≡ r) ⊎ Leaves near vs r z) → Path near (r.0 ∷ vs) (suc k) x z ⊎ ((z ≡ r) ⊎ Leaves near vs r z)
    by_rest (inl p) = by_test p (x.0 == r.0) refl
    by_rest (inr t) = inr t

-- a way of few steps
pub record Short (near : Steps) (k : ℕ) (r z : RoutineId) : Type 0 where
  pub steps : ℕ
  pub few : steps ≤ k
  pub path : Path near [] steps r z

-- where all that have a step have numbers below n, each way can be made so short
pub shorten : (near : Steps) (n : ℕ) → ((x y : RoutineId) → near x y → y.0 < n) → (k : ℕ) (vs : List ℕ) → free n vs ≤ k → (j : ℕ) (r z : RoutineId) → Path near vs j r z → Short near k r z
shorten near n below k vs few zero r z h = record { steps = 0; few = omega arith; path = (refl, h.1) }
shorten near n below zero vs few (suc j) r z h = let less = free_less n r.0 vs (below h.1 r h.2) h.0 in absurd (omega (arith, few, less))
shorten near n below (suc k) vs few (suc j) r z h = by_last (last_visit near vs r j h.1 z h.3) (λ j x p. shorten near n below k (r.0 ∷ vs) fewer j x z p)
  where
    fewer : free n (r.0 ∷ vs) ≤ k
    fewer = let less = free_less n r.0 vs (below h.1 r h.2) h.0 in omega (arith, few, less)

    onwards : (x : RoutineId) → near x r → Short near k x z → Short near (suc k) r z
    onwards x i s = let l = s.few in record { steps = suc s.steps; few = omega (arith, l); path = (refl, x, i, s.path) }

    by_last : Path near (r.0 ∷ vs) j h.1 z ⊎ ((z ≡ r) ⊎ Leaves near vs r z) → ((j : ℕ) (x : RoutineId) → Path near (r.0 ∷ vs) j x z → Short near k x z) → Short near (suc k) r z
    by_last (inl p) c = onwards h.1 h.2 (c j h.1 p)
    by_last (inr (inl e)) c = record { steps = 0; few = omega arith; path = (refl, sym e) }
    by_last (inr (inr l)) c = onwards l.next l.step (c l.steps l.next l.path)
