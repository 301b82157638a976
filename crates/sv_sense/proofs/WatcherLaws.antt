-- A process that is put among those that ascend.
use Rattle.std.proofs.Common.{◌≡◌, ℕ, zero, suc, ◌+◌, ◌≤◌, ◌<◌, Bool, true, false, cond, List, [], ◌∷◌, ◌++◌, refl, sym, ap, ◌∙◌, subst, arith, length}
use Rattle.std.specs.Prelude.{slice_get, slice_index_or, insert, nat_lt, ◌==◌, ◌||◌}
use Rattle.std.proofs.lemmas.Bool.{eq-eqb}
use Rattle.std.proofs.lemmas.List.Sums.{prefix_len_is}
use Rattle.std.specs.List.Sorted.{IsPartitionedBy, IsPartitionPoint}
use Rattle.std.proofs.lemmas.Bool.Decides.{nat_tests}
use Rattle.sv_value.specs.declared.number.ProcessId.{ProcessId}
use Rattle.sv_flat.specs.Effects.{is_in}
use Rattle.sv_sense.specs.Watchers.{Ascends, is_this, place_of, from_on}

or_right : (a b : Bool) → b ≡ true → (a || b) ≡ true
or_right true b h = refl
or_right false b h = h

or_left : (a b : Bool) → a ≡ true → (a || b) ≡ true
or_left true b h = refl
or_left false b h = cc

-- ---- the place of a process

not_before : (n : ℕ) (ps : List ProcessId) (i : ℕ) (d : ProcessId) → Ascends n ps → i < length ps → n ≤ (slice_index_or ps i d).0
not_before n [] i d h l = absurd (omega arith)
not_before n (q ∷ ps) zero d h l = h.0
not_before n (q ∷ ps) (suc i) d h l = (let z = not_before (q.0 + 1) ps i d h.1 (omega arith) in let k = h.0 in omega (arith, z, k))

parted_from : (n : ℕ) (p : ProcessId) (ps : List ProcessId) → Ascends n ps → IsPartitionedBy (λ q. nat_lt q.0 p.0) ps
parted_from n p [] h i j d l m e = absurd (omega arith)
parted_from n p (q ∷ ps) h zero zero d l m e = e
parted_from n p (q ∷ ps) h zero (suc j) d l m e =
    let z : q.0 + 1 ≤ (slice_index_or ps j d).0 = not_before (q.0 + 1) ps j d h.1 (omega arith) in
    grind (arith, nat_tests)
parted_from n p (q ∷ ps) h (suc i) zero d l m e = absurd (omega arith)
parted_from n p (q ∷ ps) h (suc i) (suc j) d l m e = parted_from (q.0 + 1) p ps h.1 i j d (omega arith) (omega arith) e

-- those that ascend stand before a process, and then not
pub parted : (p : ProcessId) (ps : List ProcessId) → Ascends 0 ps → IsPartitionedBy (λ q. nat_lt q.0 p.0) ps
parted p ps h = parted_from 0 p ps h

pub place_is : (p : ProcessId) (ps : List ProcessId) (i : ℕ) → i ≤ length ps → IsPartitionPoint (λ q. nat_lt q.0 p.0 ≡ true) (λ q. nat_lt q.0 p.0 ≡ false) ps i → i ≡ place_of p ps
place_is p ps i l point =
    sym (prefix_len_is (λ q. nat_lt q.0 p.0) ps i p l (λ k m. point.0 k p (omega arith) m) (λ m. point.1 i p (omega arith) m))

-- ---- a process that is found

pub found : (p : ProcessId) (ps : List ProcessId) (i : ℕ) → is_this p (slice_get ps i) ≡ true → is_in p ps ≡ true
found p [] i h = cc
found p (q ∷ ps) zero h = or_left (p.0 == q.0) (is_in p ps) h
found p (q ∷ ps) (suc i) h = or_right (p.0 == q.0) (is_in p ps) (found p ps i h)

-- ---- a process that is put in

pub has_inserted : (p : ProcessId) (ps : List ProcessId) (i : ℕ) → is_in p (insert ps i p) ≡ true
has_inserted p [] zero = or_left (p.0 == p.0) false (eq-eqb p.0 p.0 refl)
has_inserted p [] (suc i) = or_left (p.0 == p.0) false (eq-eqb p.0 p.0 refl)
has_inserted p (q ∷ ps) zero = or_left (p.0 == p.0) (is_in p (q ∷ ps)) (eq-eqb p.0 p.0 refl)
has_inserted p (q ∷ ps) (suc i) = or_right (p.0 == q.0) (is_in p (insert ps i p)) (has_inserted p ps i)

pub kept_inserted : (p : ProcessId) (ps : List ProcessId) (i : ℕ) (q : ProcessId) → is_in q ps ≡ true → is_in q (insert ps i p) ≡ true
kept_inserted p [] i q h = cc
kept_inserted p (r ∷ ps) zero q h = or_right (q.0 == p.0) (is_in q (r ∷ ps)) h
kept_inserted p (r ∷ ps) (suc i) q h = by_first (q.0 == r.0) h (kept_inserted p ps i q)
  where
    by_first : (b : Bool) → (b || is_in q ps) ≡ true → (is_in q ps ≡ true → is_in q (insert ps i p) ≡ true) → (b || is_in q (insert ps i p)) ≡ true
    by_first true h k = refl
    by_first false h k = k h

-- at its place they ascend as before
ascends_from : (n : ℕ) (p : ProcessId) (ps : List ProcessId) → n ≤ p.0 → Ascends n ps → is_this p (slice_get ps (place_of p ps)) ≡ false → Ascends n (insert ps (place_of p ps) p)
ascends_from n p [] l h e = (l, tt)
ascends_from n p (q ∷ ps) l h e = by_test (nat_lt q.0 p.0) refl (λ m. ascends_from (q.0 + 1) p ps m h.1) e
  where
    Goal : ℕ → Type 0
    Goal i = Ascends n (insert (q ∷ ps) i p)

    Rest : Type 0
    Rest = q.0 + 1 ≤ p.0 → is_this p (slice_get ps (place_of p ps)) ≡ false → Ascends (q.0 + 1) (insert ps (place_of p ps) p)

    by_test : (b : Bool) → nat_lt q.0 p.0 ≡ b → Rest → is_this p (slice_get (q ∷ ps) (cond b (1 + place_of p ps) 0)) ≡ false → Ascends n (insert (q ∷ ps) (cond b (1 + place_of p ps) 0) p)
    by_test true t rest e =
        let z : 1 + place_of p ps ≡ suc (place_of p ps) = omega arith in
        let m : q.0 + 1 ≤ p.0 = grind (arith, nat_tests) in
        subst (λ (i : ℕ). Ascends n (insert (q ∷ ps) i p)) (sym z) (h.0, rest m (ap (λ (i : ℕ). is_this p (slice_get (q ∷ ps) i)) (sym z) ∙ e))
    by_test false t rest e =
        let m : p.0 + 1 ≤ q.0 = grind (arith, nat_tests) in
        (l, (m, h.1))

pub put_in : (p : ProcessId) (ps us : List ProcessId) (i : ℕ) → Ascends 0 ps → i ≡ place_of p ps → is_this p (slice_get ps i) ≡ false → us ≡ insert ps i p → Ascends 0 us
put_in p ps us i h is e new =
    subst (Ascends 0) (sym (new ∙ ap (λ (k : ℕ). insert ps k p) is))
    (ascends_from 0 p ps (omega arith) h (ap (λ (k : ℕ). is_this p (slice_get ps k)) (sym is) ∙ e))

-- ---- all processes

pub ascends_all : (n c : ℕ) → Ascends n (from_on n c)
ascends_all n zero = tt
ascends_all n (suc c) = (omega arith, ascends_all (n + 1) c)

pub one_more : (n c m : ℕ) → m ≡ n + c → from_on n c ++ record { 0 = m } ∷ [] ≡ from_on n (c + 1)
one_more n zero m e = (let z : m ≡ n = omega arith in ap (λ k. record { 0 = k } ∷ []) z)
one_more n (suc c) m e =
    let z : c + 1 ≡ suc c = omega arith in
    let y : suc c + 1 ≡ suc (suc c) = omega arith in
    ap (λ ps. record { 0 = n } ∷ ps) (one_more (n + 1) c m (omega arith) ∙ ap (from_on (n + 1)) z) ∙ ap (from_on n) (sym y)

pub in_all : (n c : ℕ) (p : ProcessId) → n ≤ p.0 → p.0 < n + c → is_in p (from_on n c) ≡ true
in_all n zero p l h = absurd (omega arith)
in_all n (suc c) p l h = by_test (p.0 == n) refl (in_all (n + 1) c p)
  where
    by_test : (b : Bool) → (p.0 == n) ≡ b → (n + 1 ≤ p.0 → p.0 < n + 1 + c → is_in p (from_on (n + 1) c) ≡ true) → (b || is_in p (from_on (n + 1) c)) ≡ true
    by_test true e rest = refl
    by_test false e rest =
        let m : n + 1 ≤ p.0 = grind (arith, nat_tests) in
        rest m (omega arith)
