-- The processes that pass a test, by number.
use Rattle.std.proofs.Common.{◌≡◌, ℕ, zero, suc, ◌+◌, ◌<◌, ◌≤◌, Bool, true, false, cond, List, [], ◌∷◌, ◌++◌, length, filter, drop, refl, sym, ap, ◌∙◌, append_assoc, arith, ⊎_elim}
use Rattle.std.specs.Prelude.{◌==◌, ◌||◌, ◌&&◌}
use Rattle.std.specs.List.{list_any, list_all}
use Rattle.std.proofs.lemmas.Bool.{cases_eq}
use Rattle.std.proofs.lemmas.Bool.Decides.{nat_tests}
use Rattle.std.proofs.lemmas.List.{append-nil}
use Rattle.sv_value.specs.declared.number.ProcessId.{ProcessId}
use Rattle.sv_flat.specs.Config.{numbered_from}
use Rattle.sv_flat.specs.Effects.{is_in}
use Rattle.sv_fork.proofs.PlaceLaws.{both}

-- numbers that are the same
pub same_number : (m n : ℕ) → (m == n) ≡ true → m ≡ n
same_number m n h = grind (arith, nat_tests)

pub number_same : (n : ℕ) → (n == n) ≡ true
number_same n = grind (arith, nat_tests)

pub other_number : (m n : ℕ) → (m ≡ n → ⊥) → (m == n) ≡ false
other_number m n h = grind (arith, nat_tests)

-- ---- a loop over the numbers

-- the next one, and those that are still to be tried then
rest_is : {A : Type 0} (n : ℕ) (xs : List A) (k j : ℕ) → j ≡ n + k → k < length xs → numbered_from j (drop k xs) ≡ record { 0 = j } ∷ numbered_from (j + 1) (drop (suc k) xs)
rest_is n [] k j e h = absurd (omega arith)
rest_is n (x ∷ xs) zero j e h = refl
rest_is n (x ∷ xs) (suc k) j e h = rest_is (n + 1) xs k j (omega (arith, e)) (omega arith)

-- one number more, and those that are still to come
pub numbers_step : {A : Type 0} (xs : List A) (k : ℕ) (ps more : List ProcessId) → k < length xs → more ≡ ps ++ record { 0 = k } ∷ []
    → ps ++ numbered_from k (drop k xs) ≡ numbered_from 0 xs → more ++ numbered_from (k + 1) (drop (k + 1) xs) ≡ numbered_from 0 xs
numbers_step xs k ps more h is all =
    let e : suc k ≡ k + 1 = omega arith in
    ap (λ qs. qs ++ numbered_from (k + 1) (drop (k + 1) xs)) is ∙ append_assoc ps (record { 0 = k } ∷ []) (numbered_from (k + 1) (drop (k + 1) xs))
    ∙ ap (λ qs. ps ++ qs) (sym (rest_is 0 xs k k (omega arith) h ∙ ap (λ i. record { 0 = k } ∷ numbered_from (k + 1) (drop i xs)) e)) ∙ all

none_left : {A : Type 0} (n : ℕ) (xs : List A) (k : ℕ) → length xs ≤ k → numbered_from n (drop k xs) ≡ []
none_left n [] zero h = refl
none_left n [] (suc k) h = refl
none_left n (x ∷ xs) zero h = absurd (omega arith)
none_left n (x ∷ xs) (suc k) h = none_left n xs k (omega arith)

pub numbers_done : {A : Type 0} (xs : List A) (k : ℕ) (ps : List ProcessId) → length xs ≤ k → ps ++ numbered_from k (drop k xs) ≡ numbered_from 0 xs → ps ≡ numbered_from 0 xs
numbers_done xs k ps h all = sym (ap (λ qs. ps ++ qs) (none_left k xs k h) ∙ append-nil ps) ∙ all

-- ---- who is among those that pass

-- nobody passes
pub filter_none : {A : Type 0} (t : ProcessId → Bool) (n : ℕ) (xs : List A) → ((p : ProcessId) → t p ≡ false) → filter t (numbered_from n xs) ≡ []
filter_none t n [] h = refl
filter_none t n (x ∷ xs) h = ap (λ b. cond b (record { 0 = n } ∷ filter t (numbered_from (n + 1) xs)) (filter t (numbered_from (n + 1) xs))) (h (record { 0 = n })) ∙ filter_none t (n + 1) xs h

-- nobody from a number on passes
filter_past : {A : Type 0} (t : ProcessId → Bool) (n : ℕ) (xs : List A) (r : ℕ) → r < n → ((p : ProcessId) → (p.0 ≡ r → ⊥) → t p ≡ false) → filter t (numbered_from n xs) ≡ []
filter_past t n [] r l h = refl
filter_past t n (x ∷ xs) r l h =
    ap (λ b. cond b (record { 0 = n } ∷ filter t (numbered_from (n + 1) xs)) (filter t (numbered_from (n + 1) xs))) (h (record { 0 = n }) (λ e. omega (arith, l, e)))
    ∙ filter_past t (n + 1) xs r (omega (arith, l)) h

-- one alone passes
pub filter_one : {A : Type 0} (t : ProcessId → Bool) (n : ℕ) (xs : List A) (r : ProcessId) → n ≤ r.0 → r.0 < n + length xs → t r ≡ true
    → ((p : ProcessId) → (p.0 ≡ r.0 → ⊥) → t p ≡ false) → filter t (numbered_from n xs) ≡ r ∷ []
filter_one t n [] r l m is h = absurd (omega arith)
filter_one t n (x ∷ xs) r l m is h = ⊎_elim here (λ g. later g (filter_one t (n + 1) xs r (next n r.0 l g) (omega (arith, m)) is h)) (cases_eq n r.0)
  where
    next : (a b : ℕ) → a ≤ b → (a ≡ b → ⊥) → a + 1 ≤ b
    next a b l g = omega (arith, l, g)

    here : n ≡ r.0 → filter t (numbered_from n (x ∷ xs)) ≡ r ∷ []
    here e =
        let same : record { 0 = n } ≡ r = (λ i. record { 0 = e i }) in
        ap (λ b. cond b (record { 0 = n } ∷ filter t (numbered_from (n + 1) xs)) (filter t (numbered_from (n + 1) xs))) (ap t same ∙ is)
        ∙ ap (λ ps. record { 0 = n } ∷ ps) (filter_past t (n + 1) xs r.0 (omega (arith, e)) h) ∙ ap (λ (q : ProcessId). q ∷ []) same

    later : (n ≡ r.0 → ⊥) → filter t (numbered_from (n + 1) xs) ≡ r ∷ [] → filter t (numbered_from n (x ∷ xs)) ≡ r ∷ []
    later g rest =
        ap (λ b. cond b (record { 0 = n } ∷ filter t (numbered_from (n + 1) xs)) (filter t (numbered_from (n + 1) xs))) (h (record { 0 = n }) g) ∙ rest

or_right : (a b : Bool) → b ≡ true → (a || b) ≡ true
or_right true b h = refl
or_right false b h = h

or_left : (a b : Bool) → a ≡ true → (a || b) ≡ true
or_left true b h = refl
or_left false b h = both h refl

-- who passes is among those that pass
pub filter_has : {A : Type 0} (t : ProcessId → Bool) (n : ℕ) (xs : List A) (q : ProcessId) → n ≤ q.0 → q.0 < n + length xs → t q ≡ true → is_in q (filter t (numbered_from n xs)) ≡ true
filter_has t n [] q l m is = absurd (omega arith)
filter_has t n (x ∷ xs) q l m is = ⊎_elim here (λ g. kept (t (record { 0 = n })) (filter_has t (n + 1) xs q (next n q.0 l g) (omega (arith, m)) is)) (cases_eq n q.0)
  where
    next : (a b : ℕ) → a ≤ b → (a ≡ b → ⊥) → a + 1 ≤ b
    next a b l g = omega (arith, l, g)

    rest : List ProcessId
    rest = filter t (numbered_from (n + 1) xs)

    here : n ≡ q.0 → is_in q (filter t (numbered_from n (x ∷ xs))) ≡ true
    here e =
        let same : record { 0 = n } ≡ q = (λ i. record { 0 = e i }) in
        ap (λ b. is_in q (cond b (record { 0 = n } ∷ rest) rest)) (ap t same ∙ is)
        ∙ or_left (q.0 == n) (is_in q rest) (ap (λ k. q.0 == k) e ∙ number_same q.0)

    kept : (b : Bool) → is_in q rest ≡ true → is_in q (cond b (record { 0 = n } ∷ rest) rest) ≡ true
    kept true h = or_right (q.0 == n) (is_in q rest) h
    kept false h = h

-- who is among those that pass has passed
pub filter_passed : {A : Type 0} (t : ProcessId → Bool) (n : ℕ) (xs : List A) (q : ProcessId) → is_in q (filter t (numbered_from n xs)) ≡ true → t q ≡ true
filter_passed t n [] q h = both h refl
filter_passed t n (x ∷ xs) q h = of_test (filter_passed t (n + 1) xs q) (t (record { 0 = n })) refl h
  where
    rest : List ProcessId
    rest = filter t (numbered_from (n + 1) xs)

    of_first : (is_in q rest ≡ true → t q ≡ true) → (b : Bool) → (q.0 == n) ≡ b → t (record { 0 = n }) ≡ true → (b || is_in q rest) ≡ true → t q ≡ true
    of_first later true e is g = ap t (λ i. record { 0 = same_number q.0 n e i }) ∙ is
    of_first later false e is g = later g

    of_test : (is_in q rest ≡ true → t q ≡ true) → (b : Bool) → t (record { 0 = n }) ≡ b → is_in q (cond b (record { 0 = n } ∷ rest) rest) ≡ true → t q ≡ true
    of_test later true is g = of_first later (q.0 == n) refl is g
    of_test later false is g = later g

-- tests that are the same
pub filter_same : {A B : Type 0} (t u : ProcessId → Bool) (n : ℕ) (xs : List A) (ys : List B) → length xs ≡ length ys → ((p : ProcessId) → t p ≡ u p)
    → filter t (numbered_from n xs) ≡ filter u (numbered_from n ys)
filter_same t u n [] [] l h = refl
filter_same t u n [] (y ∷ ys) l h = absurd (omega (arith, l))
filter_same t u n (x ∷ xs) [] l h = absurd (omega (arith, l))
filter_same t u n (x ∷ xs) (y ∷ ys) l h =
    λ i. cond (h (record { 0 = n }) i) (record { 0 = n } ∷ filter_same t u (n + 1) xs ys (omega (arith, l)) h i) (filter_same t u (n + 1) xs ys (omega (arith, l)) h i)

-- ---- tests of all, or of one, of a list

pub all_same : (t u : ProcessId → Bool) (ps : List ProcessId) → ((p : ProcessId) → is_in p ps ≡ true → t p ≡ u p) → list_all t ps ≡ list_all u ps
all_same t u [] h = refl
all_same t u (p ∷ ps) h =
    λ i. h p (or_left (p.0 == p.0) (is_in p ps) (number_same p.0)) i && all_same t u ps (λ q g. h q (or_right (q.0 == p.0) (is_in q ps) g)) i

pub any_same : (t u : ProcessId → Bool) (ps : List ProcessId) → ((p : ProcessId) → is_in p ps ≡ true → t p ≡ u p) → list_any t ps ≡ list_any u ps
any_same t u [] h = refl
any_same t u (p ∷ ps) h =
    λ i. h p (or_left (p.0 == p.0) (is_in p ps) (number_same p.0)) i || any_same t u ps (λ q g. h q (or_right (q.0 == p.0) (is_in q ps) g)) i

-- a test that follows from another one
pub all_less : (t u : ProcessId → Bool) (ps : List ProcessId) → ((p : ProcessId) → t p ≡ true → u p ≡ true) → list_all u ps ≡ false → list_all t ps ≡ false
all_less t u [] h k = k
all_less t u (p ∷ ps) h k = of_first (all_less t u ps h) (t p) (u p) (h p) k
  where
    of_first : (list_all u ps ≡ false → list_all t ps ≡ false) → (a b : Bool) → (a ≡ true → b ≡ true) → (b && list_all u ps) ≡ false → (a && list_all t ps) ≡ false
    of_first later false b g e = refl
    of_first later true true g e = later e
    of_first later true false g e = both (g refl) refl

pub any_less : (t u : ProcessId → Bool) (ps : List ProcessId) → ((p : ProcessId) → t p ≡ true → u p ≡ true) → list_any u ps ≡ false → list_any t ps ≡ false
any_less t u [] h k = k
any_less t u (p ∷ ps) h k = of_first (any_less t u ps h) (t p) (u p) (h p) k
  where
    of_first : (list_any u ps ≡ false → list_any t ps ≡ false) → (a b : Bool) → (a ≡ true → b ≡ true) → (b || list_any u ps) ≡ false → (a || list_any t ps) ≡ false
    of_first later false false g e = later e
    of_first later false true g e = both refl e
    of_first later true true g e = both refl e
    of_first later true false g e = both (g refl) refl

-- one of those for which a test holds
pub all_passed : (t : ProcessId → Bool) (ps : List ProcessId) (q : ProcessId) → list_all t ps ≡ true → is_in q ps ≡ true → t q ≡ true
all_passed t [] q h g = both g refl
all_passed t (p ∷ ps) q h g = of_both (all_passed t ps q) (t p) (q.0 == p.0) refl refl h g
  where
    of_both : (list_all t ps ≡ true → is_in q ps ≡ true → t q ≡ true) → (a b : Bool) → t p ≡ a → (q.0 == p.0) ≡ b → (a && list_all t ps) ≡ true → (b || is_in q ps) ≡ true → t q ≡ true
    of_both later false b x e h g = both h refl
    of_both later true true x e h g = ap t (λ i. record { 0 = same_number q.0 p.0 e i }) ∙ x
    of_both later true false x e h g = later h g
