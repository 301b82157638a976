-- Trying those who may be woken wakes all who are woken.
use Rattle.std.proofs.Common.{◌≡◌, ℕ, zero, suc, ◌+◌, ◌<◌, ◌≤◌, Bool, true, false, List, [], ◌∷◌, ◌++◌, Option, None, refl, sym, ap, ◌∙◌, subst, arith, length}
use Rattle.std.specs.Prelude.{slice_index_or, slice_set, ◌==◌, ◌||◌, if◌then◌else◌}
use Rattle.std.proofs.lemmas.List.{length-append}
use Rattle.std.proofs.lemmas.Bool.Decides.{nat_tests}
use Rattle.sv_value.specs.declared.number.ProcessId.{ProcessId}
use Rattle.sv_flat.specs.Effects.{is_in}
use Rattle.sv_sense.specs.declared.waiter.Waiter.{Waiter}
use Rattle.sv_sense.specs.Watchers.{Ascends}
use Rattle.sv_sense.specs.Wakes.{wait_of, tried_one, woken_one, tried, woken_of, waits_after, woken_from}

-- ---- lists in two parts

at-append : (pre : List (Option Waiter)) (w : Option Waiter) (ws : List (Option Waiter)) (i : ℕ) → i ≡ length pre → slice_index_or (pre ++ w ∷ ws) i None ≡ w
at-append [] w ws zero e = refl
at-append [] w ws (suc i) e = absurd (omega arith)
at-append (x ∷ pre) w ws zero e = absurd (omega arith)
at-append (x ∷ pre) w ws (suc i) e = at-append pre w ws i (omega arith)

set-append : (pre : List (Option Waiter)) (w v : Option Waiter) (ws : List (Option Waiter)) (i : ℕ) → i ≡ length pre → slice_set (pre ++ w ∷ ws) i v ≡ pre ++ v ∷ ws
set-append [] w v ws zero e = refl
set-append [] w v ws (suc i) e = absurd (omega arith)
set-append (x ∷ pre) w v ws zero e = absurd (omega arith)
set-append (x ∷ pre) w v ws (suc i) e = ap (λ (us : List (Option Waiter)). x ∷ us) (set-append pre w v ws i (omega arith))

more-append : (pre : List (Option Waiter)) (w : Option Waiter) (ws : List (Option Waiter)) → pre ++ w ∷ ws ≡ (pre ++ w ∷ []) ++ ws
more-append [] w ws = refl
more-append (x ∷ pre) w ws = ap (λ (us : List (Option Waiter)). x ∷ us) (more-append pre w ws)

beyond : (ws : List (Option Waiter)) (i : ℕ) → length ws ≤ i → slice_index_or ws i None ≡ None
beyond [] i h = refl
beyond (w ∷ ws) zero h = absurd (omega arith)
beyond (w ∷ ws) (suc i) h = beyond ws i (omega arith)

-- ---- who ascends from a number on

ascends_more : (n m : ℕ) (ps : List ProcessId) → m ≤ n → Ascends n ps → Ascends m ps
ascends_more n m [] l h = tt
ascends_more n m (p ∷ ps) l h = ((let k = h.0 in omega arith), h.1)

not_below : (n : ℕ) (p : ProcessId) (ps : List ProcessId) → p.0 < n → Ascends n ps → is_in p ps ≡ false
not_below n p [] l h = refl
not_below n p (q ∷ ps) l h = by_test (p.0 == q.0) refl (not_below (q.0 + 1) p ps (let k = h.0 in omega arith) h.1)
  where
    by_test : (b : Bool) → (p.0 == q.0) ≡ b → is_in p ps ≡ false → (b || is_in p ps) ≡ false
    by_test true e rest = (let k = h.0 in let z : p.0 ≡ q.0 = grind (arith, nat_tests) in absurd (omega arith))
    by_test false e rest = rest

module _ (t : Option Waiter → Bool) (no : t None ≡ false) where
  -- those beyond the end do not wait
  one_beyond : (p : ProcessId) (ws : List (Option Waiter)) → length ws ≤ p.0 → tried_one t p ws ≡ ws
  one_beyond p ws h = ap (λ (b : Bool). if b then slice_set ws p.0 None else ws) (ap t (beyond ws p.0 h) ∙ no)

  none_beyond : (p : ProcessId) (ws : List (Option Waiter)) → length ws ≤ p.0 → woken_one t p ws ≡ []
  none_beyond p ws h = ap (λ (b : Bool). if b then p ∷ [] else []) (ap t (beyond ws p.0 h) ∙ no)

  tried_beyond : (ps : List ProcessId) (ws : List (Option Waiter)) → Ascends (length ws) ps → tried t ps ws ≡ ws
  tried_beyond [] ws h = refl
  tried_beyond (p ∷ ps) ws h =
      ap (tried t ps) (one_beyond p ws h.0) ∙ tried_beyond ps ws (ascends_more (p.0 + 1) (length ws) ps (let k = h.0 in omega arith) h.1)

  woken_beyond : (ps : List ProcessId) (ws : List (Option Waiter)) → Ascends (length ws) ps → woken_of t ps ws ≡ []
  woken_beyond [] ws h = refl
  woken_beyond (p ∷ ps) ws h =
      ap (λ (us : List (Option Waiter)). woken_one t p ws ++ woken_of t ps us) (one_beyond p ws h.0)
      ∙ ap (λ (qs : List ProcessId). qs ++ woken_of t ps ws) (none_beyond p ws h.0)
      ∙ woken_beyond ps ws (ascends_more (p.0 + 1) (length ws) ps (let k = h.0 in omega arith) h.1)

  -- ---- process by process

  record Meets (n : ℕ) (pre ws : List (Option Waiter)) (qs : List ProcessId) : Type 0 where
    pub waits : tried t qs (pre ++ ws) ≡ pre ++ waits_after t ws
    pub woken : woken_of t qs (pre ++ ws) ≡ woken_from t n ws

  -- all that are woken are among these
  record Complete (n : ℕ) (ws : List (Option Waiter)) (qs : List ProcessId) : Type 0 where
    pub each : (i : ℕ) → t (slice_index_or ws i None) ≡ true → is_in (record { 0 = n + i }) qs ≡ true

  -- one that is not woken need not be tried
  skip : (n : ℕ) (pre : List (Option Waiter)) (w : Option Waiter) (ws : List (Option Waiter)) (qs : List ProcessId) → t w ≡ false
      → Meets (n + 1) (pre ++ w ∷ []) ws qs → Meets n pre (w ∷ ws) qs
  skip n pre w ws qs e m = record {
    waits =
        ap (tried t qs) (more-append pre w ws) ∙ m.waits ∙ sym (more-append pre w (waits_after t ws))
        ∙ ap (λ (b : Bool). pre ++ (if b then None else w) ∷ waits_after t ws) (sym e);
    woken =
        ap (woken_of t qs) (more-append pre w ws) ∙ m.woken
        ∙ ap (λ (b : Bool). if b then record { 0 = n } ∷ woken_from t (n + 1) ws else woken_from t (n + 1) ws) (sym e);
  }

  -- one is tried
  take_one : (n : ℕ) (pre : List (Option Waiter)) (w : Option Waiter) (ws : List (Option Waiter)) (q : ProcessId) (qs : List ProcessId) → q.0 ≡ n → n ≡ length pre
      → Meets (n + 1) (pre ++ (if t w then None else w) ∷ []) ws qs → Meets n pre (w ∷ ws) (q ∷ qs)
  take_one n pre w ws q qs is l m = record {
    waits = ap (tried t qs) (one ∙ more-append pre v ws) ∙ m.waits ∙ sym (more-append pre v (waits_after t ws));
    woken =
        ap (λ (us : List (Option Waiter)). woken_one t q all ++ woken_of t qs us) (one ∙ more-append pre v ws)
        ∙ ap (λ (ps : List ProcessId). woken_one t q all ++ ps) m.woken
        ∙ ap (λ (x : Option Waiter). (if t x then q ∷ [] else []) ++ woken_from t (n + 1) ws) here
        ∙ told (t w);
  }
    where
      all : List (Option Waiter)
      all = pre ++ w ∷ ws

      v : Option Waiter
      v = if t w then None else w

      at : q.0 ≡ length pre
      at = is ∙ l

      here : wait_of q all ≡ w
      here = at-append pre w ws q.0 at

      left : (b : Bool) → (if b then slice_set all q.0 None else all) ≡ pre ++ (if b then None else w) ∷ ws
      left true = set-append pre w None ws q.0 at
      left false = refl

      one : tried_one t q all ≡ pre ++ v ∷ ws
      one = ap (λ (x : Option Waiter). if t x then slice_set all q.0 None else all) here ∙ left (t w)

      told : (b : Bool) → (if b then q ∷ [] else []) ++ woken_from t (n + 1) ws ≡ (if b then record { 0 = n } ∷ woken_from t (n + 1) ws else woken_from t (n + 1) ws)
      told true = λ i. record { 0 = is i } ∷ woken_from t (n + 1) ws
      told false = refl

  later : (n : ℕ) (w : Option Waiter) (ws : List (Option Waiter)) (qs : List ProcessId) → Complete n (w ∷ ws) qs → Complete (n + 1) ws qs
  later n w ws qs k = record { each = λ i h. (let z : n + suc i ≡ n + 1 + i = omega arith in ap (λ (m : ℕ). is_in (record { 0 = m }) qs) (sym z) ∙ k.each (suc i) h) }

  -- the first of these is below
  later_of : (n : ℕ) (w : Option Waiter) (ws : List (Option Waiter)) (q : ProcessId) (qs : List ProcessId) → q.0 ≡ n → Complete n (w ∷ ws) (q ∷ qs) → Complete (n + 1) ws qs
  later_of n w ws q qs is k = record { each = λ i h. other i ((later n w ws (q ∷ qs) k).each i h) }
    where
      other : (i : ℕ) → ((n + 1 + i == q.0) || is_in (record { 0 = n + 1 + i }) qs) ≡ true → is_in (record { 0 = n + 1 + i }) qs ≡ true
      other i h = by_test (n + 1 + i == q.0) refl h
        where
          by_test : (b : Bool) → (n + 1 + i == q.0) ≡ b → (b || is_in (record { 0 = n + 1 + i }) qs) ≡ true → is_in (record { 0 = n + 1 + i }) qs ≡ true
          by_test true e h = (let z : n + 1 + i ≡ q.0 = grind (arith, nat_tests) in absurd (omega arith))
          by_test false e h = h

  -- who is not among these is not woken
  calm : (n : ℕ) (w : Option Waiter) (ws : List (Option Waiter)) (qs : List ProcessId) → Complete n (w ∷ ws) qs → Ascends (n + 1) qs → t w ≡ false
  calm n w ws qs k a = by_test (t w) refl
    where
      by_test : (b : Bool) → t w ≡ b → b ≡ false
      by_test true e =
          let z : n + 0 ≡ n = omega arith in
          let y : true ≡ false = sym (k.each 0 e) ∙ not_below (n + 1) (record { 0 = n + 0 }) qs (omega arith) a in
          cc
      by_test false e = refl

  longer : (n : ℕ) (pre : List (Option Waiter)) (w : Option Waiter) → n ≡ length pre → n + 1 ≡ length (pre ++ w ∷ [])
  longer n pre w l = (let z = length-append pre (w ∷ []) in omega (arith, z))

  all_tried : (ws : List (Option Waiter)) (n : ℕ) (pre : List (Option Waiter)) (qs : List ProcessId) → n ≡ length pre → Ascends n qs → Complete n ws qs → Meets n pre ws qs
  all_tried [] n pre qs l a k =
      let z : n ≡ length (pre ++ []) = (let y = length-append pre [] in omega (arith, y)) in
      let b : Ascends (length (pre ++ [])) qs = subst (λ (m : ℕ). Ascends m qs) z a in
      record { waits = tried_beyond qs (pre ++ []) b; woken = woken_beyond qs (pre ++ []) b }
  all_tried (w ∷ ws) n pre [] l a k =
      skip n pre w ws [] (calm n w ws [] k tt) (all_tried ws (n + 1) (pre ++ w ∷ []) [] (longer n pre w l) tt (later n w ws [] k))
  all_tried (w ∷ ws) n pre (q ∷ qs) l a k =
      by_test (q.0 == n) refl
      (all_tried ws (n + 1) (pre ++ (if t w then None else w) ∷ []) qs (longer n pre (if t w then None else w) l))
      (all_tried ws (n + 1) (pre ++ w ∷ []) (q ∷ qs) (longer n pre w l))
    where
      by_test : (b : Bool) → (q.0 == n) ≡ b
          → (Ascends (n + 1) qs → Complete (n + 1) ws qs → Meets (n + 1) (pre ++ (if t w then None else w) ∷ []) ws qs)
          → (Ascends (n + 1) (q ∷ qs) → Complete (n + 1) ws (q ∷ qs) → Meets (n + 1) (pre ++ w ∷ []) ws (q ∷ qs))
          → Meets n pre (w ∷ ws) (q ∷ qs)
      by_test true e go pass =
          let is : q.0 ≡ n = grind (arith, nat_tests) in
          take_one n pre w ws q qs is l (go (subst (λ (m : ℕ). Ascends (m + 1) qs) is a.1) (later_of n w ws q qs is k))
      by_test false e go pass =
          let c = a.0 in
          let m : n + 1 ≤ q.0 = grind (arith, nat_tests) in
          let b : Ascends (n + 1) (q ∷ qs) = (m, a.1) in
          skip n pre w ws (q ∷ qs) (calm n w ws (q ∷ qs) k b) (pass b (later n w ws (q ∷ qs) k))

  whole : (ws : List (Option Waiter)) (qs : List ProcessId) → Ascends 0 qs → ((p : ProcessId) → t (wait_of p ws) ≡ true → is_in p qs ≡ true) → Meets 0 [] ws qs
  whole ws qs a k =
      all_tried ws 0 [] qs refl a
      (record { each = λ i h. (let z : 0 + i ≡ i = omega arith in ap (λ (m : ℕ). is_in (record { 0 = m }) qs) z ∙ k (record { 0 = i }) h) })

-- ---- where all that are woken are among those that are tried

pub all_left : (t : Option Waiter → Bool) → t None ≡ false → (ws : List (Option Waiter)) (qs : List ProcessId) → Ascends 0 qs
    → ((p : ProcessId) → t (wait_of p ws) ≡ true → is_in p qs ≡ true) → tried t qs ws ≡ waits_after t ws
all_left t n ws qs a k = (whole t n ws qs a k).waits

pub all_woken : (t : Option Waiter → Bool) → t None ≡ false → (ws : List (Option Waiter)) (qs : List ProcessId) → Ascends 0 qs
    → ((p : ProcessId) → t (wait_of p ws) ≡ true → is_in p qs ≡ true) → woken_of t qs ws ≡ woken_from t 0 ws
all_woken t n ws qs a k = (whole t n ws qs a k).woken
