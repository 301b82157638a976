-- Ends of processes, and the joins that they complete.
use Rattle.std.proofs.Common.{ℕ, zero, suc, ◌≡◌, ◌≢◌, ◌+◌, ◌≤◌, ◌<◌, List, [], ◌∷◌, Option, None, Some, Bool, true, false, cond, refl, ap, subst, sym, ◌∙◌, arith, length, slice_get, slice_set, inl, inr}
use Rattle.std.specs.Prelude.{◌⊎◌, filter, IsSome, ◌==◌, if◌then◌else◌}
use Rattle.std.proofs.lemmas.Bool.Decides.{nat_tests}
use Rattle.sv_value.specs.declared.number.ProcessId.{ProcessId}
use Rattle.sv_value.specs.Regions.{ready_in, front_of, regions_without}
use Rattle.sv_flat.specs.declared.design.Parts.{Parts}
use Rattle.sv_flat.specs.Process
use Rattle.sv_flat.specs.Process.{ProcessState, Status, Ready, Running, Waiting, Moment, Turn_in_slot, Watches, Children, Queue, Start}
use Rattle.sv_flat.specs.Config.{Config, process_at, set_at, side_in, numbered_from, state_test, made_ready, all_made_ready}
use Rattle.sv_flat.specs.Effects.Ends.{ended, heap_without, not_due_to, is_running, joins, joined}
use Rattle.sv_sound.specs.Sound.{IsSound, IsPlainEvent, is_pending, is_held, is_parked, is_complete, weight_of_event, weight_of_running, IsUnder}
use Rattle.sv_sound.specs.After.{over}
use Rattle.sv_sound.proofs.Weights.{all_filter, there, within, filtered_weight, without_weight, parked_less, all_still}
use Rattle.sv_sound.proofs.Plain.{same_jobs}
use Rattle.sv_sound.proofs.States.{not_parked}
use Rattle.sv_sound.proofs.Related.{found_in, complete_still, related_over, is_joining, made_set}
use Rattle.sv_sound.proofs.Wakes.{slice_get-set_same, slice_get-set_other, other_process}
use Rattle.sv_sound.proofs.Changes.{states_with, ready_sound}
use Rattle.sv_sound.proofs.Running.{runs_calm, ended_is}

some_same : {A : Type 0} {a b : A} → Some a ≡ Some b → a ≡ b
some_same h = cc

-- the state of a process that is over
abbrev pub over_state : ProcessState → ProcessState
over_state q = record q { latest = Process.Ended; rest = [] }

-- ---- one process ends

stopped_less : (w : ProcessId → ℕ) (o : Option ProcessId) (b : Bool) → weight_of_running w (if b then None else o) ≤ weight_of_running w o
stopped_less w o true = omega arith
stopped_less w o false = omega arith

module _ (d : Parts) (c : Config) (k : IsSound d c) (p : ProcessId) (q : ProcessState) (is : process_at c p ≡ Some q) where
  abbrev pub without : List ProcessState
  without = slice_set c.processes p.0 (over_state q)

  -- where the join of its parent is not complete then
  pub ended_sound : (is_pending d.processes c.processes ≡ true → is_held q.latest ≡ false)
      → ((a : ProcessId) (s : ProcessState) → q.parent ≡ Some a → process_at c a ≡ Some s → is_complete without s.latest ≡ false) → IsSound d (ended p c)
  ended_sound free h =
      let g : Option ProcessState → Config = λ o. record c {
        running = if is_running c.running p then None else c.running;
        regions = regions_without p c.regions;
        world = record c.world { heap = heap_without p c.heap };
        future = filter (not_due_to p) c.future;
        processes = set_at o over_state p c.processes;
      } in
      subst (IsSound d) (sym (ap g is)) (record {
        no_heap = ap (heap_without p) k.no_heap;
        no_clocks = k.no_clocks;
        no_monitor = k.no_monitor;
        plain = record { active = same_jobs c.regions.active _ refl refl refl k.plain.active; reactive = same_jobs c.regions.reactive _ refl refl refl k.plain.reactive };
        each_event = all_filter IsPlainEvent (not_due_to p) c.future k.each_event;
        states = states_with d c k p q is free (over_state q) refl refl refl refl tt tt refl;
        related = related_over c.processes k.related p q is (over_state q) refl refl refl h;
        made = made_set c.processes p.0 (over_state q) c.activations k.made;
        weights = λ w.
            let n = k.weights w in
            let a = without_weight w p c.regions in
            let b = filtered_weight (weight_of_event w) (not_due_to p) c.future in
            let e = parked_less w c.processes p q (over_state q) is refl in
            let o = stopped_less w c.running (is_running c.running p) in
            let y = all_still w c.processes p.0 (over_state q) in
            omega (arith, n, a, b, e, o, y);
      })

-- ---- the joins that are complete then

joins_is : (c : Config) (s : Status) → joins c s ≡ is_complete c.processes s
joins_is c (Waiting (Children true ps)) = refl
joins_is c (Waiting (Children false ps)) = refl
joins_is c (Waiting (Watches ws scope)) = refl
joins_is c (Waiting Start) = refl
joins_is c (Waiting Moment) = refl
joins_is c (Waiting Turn_in_slot) = refl
joins_is c (Waiting Queue) = refl
joins_is c Ready = refl
joins_is c Running = refl
joins_is c Process.Ended = refl

none_pass : {A : Type 0} (f : ProcessId → Bool) (n : ℕ) (xs : List A) → ((i : ProcessId) → n ≤ i.0 → f i ≡ false) → filter f (numbered_from n xs) ≡ []
none_pass f n [] h = refl
none_pass f n (x ∷ xs) h =
    ap (λ b. cond b (record { 0 = n } ∷ filter f (numbered_from (n + 1) xs)) (filter f (numbered_from (n + 1) xs))) (h (record { 0 = n }) (omega arith))
    ∙ none_pass f (n + 1) xs (λ i l. h i (omega (arith, l)))

-- a test that one alone may pass
one_passes : {A : Type 0} (f : ProcessId → Bool) (a : ProcessId) (n : ℕ) (xs : List A) → n ≤ a.0 → a.0 < n + length xs → ((i : ProcessId) → i.0 ≢ a.0 → f i ≡ false)
    → filter f (numbered_from n xs) ≡ (if f a then a ∷ [] else [])
one_passes f a n [] l m h = absurd (omega (arith, l, m))
one_passes {A} f a n (x ∷ xs) l m h = by_test (n == a.0) refl (λ y z. one_passes f a (n + 1) xs y z h)
  where
    here : ProcessId
    here = record { 0 = n }

    later : List ProcessId
    later = filter f (numbered_from (n + 1) xs)

    by_test : (b : Bool) → (n == a.0) ≡ b → (n + 1 ≤ a.0 → a.0 < n + 1 + length xs → later ≡ (if f a then a ∷ [] else [])) → cond (f here) (here ∷ later) later ≡ (if f a then a ∷ [] else [])
    by_test true e i =
        let same : n ≡ a.0 = grind (arith, nat_tests) in
        let none : later ≡ [] = none_pass f (n + 1) xs (λ j y. h j (λ z. absurd (omega (arith, y, z, same)))) in
        ap (λ (ps : List ProcessId). cond (f here) (here ∷ ps) ps) none ∙ (λ j. if f (record { 0 = same j }) then record { 0 = same j } ∷ [] else [])
    by_test false e i =
        let other : n ≢ a.0 = grind (arith, nat_tests) in
        ap (λ b. cond b (here ∷ later) later) (h here other) ∙ i (omega (arith, l, other)) (omega (arith, m))

module _ (d : Parts) (c : Config) (k : IsSound d c) (p : ProcessId) (q : ProcessState) (is : process_at c p ≡ Some q) where
  processes_then : (ended p c).processes ≡ without d c k p q is
  processes_then = ap (λ o. set_at o over_state p c.processes) is

  joined_then : joined (ended p c) ≡ filter (λ i. state_test (λ s. is_complete (without d c k p q is) s.latest) (slice_get (without d c k p q is) i.0)) (numbered_from 0 (without d c k p q is))
  joined_then =
      (λ i. filter (λ j. state_test (λ s. joins_is (ended p c) s.latest i) (slice_get (ended p c).processes j.0)) (numbered_from 0 (ended p c).processes))
      ∙ ap (λ (rs : List ProcessState). filter (λ j. state_test (λ s. is_complete rs s.latest) (slice_get rs j.0)) (numbered_from 0 rs)) processes_then

  -- whose join is not complete: all but the parent
  not_joined : (i : ProcessId) → (q.parent ≡ Some i → ⊥) → state_test (λ s. is_complete (without d c k p q is) s.latest) (slice_get (without d c k p q is) i.0) ≡ false
  not_joined i other = by_state (slice_get (without d c k p q is) i.0) refl
    where
      by_state : (o : Option ProcessState) → slice_get (without d c k p q is) i.0 ≡ o → state_test (λ s. is_complete (without d c k p q is) s.latest) o ≡ false
      by_state None e = refl
      by_state (Some s) e = by_place (found_in c.processes p.0 i.0 (over_state q) s e)
        where
          by_place : (slice_get c.processes i.0 ≡ Some s) ⊎ ((i.0 ≡ p.0) × (over_state q ≡ s)) → is_complete (without d c k p q is) s.latest ≡ false
          by_place (inl f) = complete_still c.processes k.related p q is (over_state q) refl refl i s f other
          by_place (inr f) = ap (λ (u : ProcessState). is_complete (without d c k p q is) u.latest) (sym f.1)

  pub joined_none : q.parent ≡ None → joined (ended p c) ≡ []
  joined_none h = joined_then ∙ none_pass _ 0 (without d c k p q is) (λ i l. not_joined i (λ e. let z : None ≡ Some i = sym h ∙ e in absurd (cc)))

  -- the process of a parent
  pub parent_of : (a : ProcessId) → q.parent ≡ Some a → (s : ProcessState) × (process_at c a ≡ Some s)
  parent_of a e = there c.processes a.0 (of_under q.parent e (k.related.each p q is).parent)
    where
      of_under : (o : Option ProcessId) → o ≡ Some a → IsUnder c.processes p q.side o → a.0 < length c.processes
      of_under None e u = absurd (cc)
      of_under (Some b) e u =
          let same : b.0 ≡ a.0 = ap (λ (x : ProcessId). x.0) (some_same e) in
          let l = u.0 in
          let m = within c.processes p.0 q is in
          omega (arith, same, l, m)

  module _ (a : ProcessId) (s : ProcessState) (parent : q.parent ≡ Some a) (at : process_at c a ≡ Some s) where
    pub parent_before : a.0 < p.0
    parent_before = of_under q.parent parent (k.related.each p q is).parent
      where
        of_under : (o : Option ProcessId) → o ≡ Some a → IsUnder c.processes p q.side o → a.0 < p.0
        of_under None e u = absurd (cc)
        of_under (Some b) e u = let same : b.0 ≡ a.0 = ap (λ (x : ProcessId). x.0) (some_same e) in let l = u.0 in omega (arith, same, l)

    parent_apart : a.0 ≢ p.0
    parent_apart e = absurd (let l = parent_before in omega (arith, l, e))

    parent_then : slice_get (without d c k p q is) a.0 ≡ Some s
    parent_then = slice_get-set_other c.processes p.0 a.0 (over_state q) parent_apart ∙ at

    -- the parent alone may go on
    pub joined_is : joined (ended p c) ≡ (if is_complete (without d c k p q is) s.latest then a ∷ [] else [])
    joined_is =
        joined_then
        ∙ one_passes _ a 0 (without d c k p q is) (omega arith) (let l = within (without d c k p q is) a.0 s parent_then in omega (arith, l))
        (λ i n. not_joined i (λ e. n (ap (λ (x : ProcessId). x.0) (some_same (sym e ∙ parent)))))
        ∙ ap (λ o. if state_test (λ s. is_complete (without d c k p q is) s.latest) o then a ∷ [] else []) parent_then

-- ---- a forked process is at the end of its body

complete_joining : (qs : List ProcessState) (s : Status) → is_complete qs s ≡ true → is_joining s ≡ true
complete_joining qs (Waiting (Children all ps)) h = refl
complete_joining qs s h = absurd (cc)

joining_parked : (s : Status) → is_joining s ≡ true → is_parked s ≡ true
joining_parked (Waiting (Children all ps)) h = refl
joining_parked s h = absurd (cc)

joining_free : (s : Status) → is_joining s ≡ true → is_held s ≡ false
joining_free (Waiting (Children all ps)) h = refl
joining_free s h = absurd (cc)

set_swap : {A : Type 0} (xs : List A) (i j : ℕ) (x y : A) → i ≢ j → slice_set (slice_set xs i x) j y ≡ slice_set (slice_set xs j y) i x
set_swap [] i j x y h = refl
set_swap (z ∷ xs) zero zero x y h = absurd (h refl)
set_swap (z ∷ xs) zero (suc j) x y h = refl
set_swap (z ∷ xs) (suc i) zero x y h = refl
set_swap (z ∷ xs) (suc i) (suc j) x y h = ap (λ (ys : List _). z ∷ ys) (set_swap xs i j x y (λ e. h (ap suc e)))

module _ (d : Parts) (c : Config) (k : IsSound d c) (p : ProcessId) (r : c.running ≡ Some p) (q : ProcessState) (is : process_at c p ≡ Some q) where
  free_now : is_pending d.processes c.processes ≡ true → is_held q.latest ≡ false
  free_now x = not_parked q.latest (runs_calm d c k p r q is)

  module _ (a : ProcessId) (s : ProcessState) (parent : q.parent ≡ Some a) (at : process_at c a ≡ Some s) where
    apart : p.0 ≢ a.0
    apart e = absurd (let l = parent_before d c k p q is a s parent at in omega (arith, l, e))

    not_complete : is_complete (without d c k p q is) s.latest ≡ false → IsSound d (ended p c)
    not_complete h = ended_sound d c k p q is free_now (λ b t g e. subst (λ (u : ProcessState). is_complete (without d c k p q is) u.latest ≡ false) (same b t g e) h)
      where
        same : (b : ProcessId) (t : ProcessState) → q.parent ≡ Some b → process_at c b ≡ Some t → s ≡ t
        same b t g e = some_same (sym at ∙ ap (process_at c) (some_same (sym parent ∙ g)) ∙ e)

    -- where its join is complete, the parent may become ready before the process ends
    abbrev pub early : Config
    early = made_ready a c

    pub early_sound : is_complete (without d c k p q is) s.latest ≡ true → IsSound d early
    early_sound h =
        let j = complete_joining (without d c k p q is) s.latest h in
        ready_sound d c k a s at (joining_parked s.latest j) (λ x. joining_free s.latest j)

    abbrev v : ProcessState
    v = record s { latest = Ready }

    early_is : early ≡ record c { processes = slice_set c.processes a.0 v; regions = ready_in (front_of s.side) a c.regions }
    early_is = ap (λ o. record c { processes = set_at o (λ s. record s { latest = Ready }) a c.processes; regions = ready_in (front_of (side_in o)) a c.regions }) at

    at_early : process_at early a ≡ Some v
    at_early = ap (λ (x : Config). process_at x a) early_is ∙ slice_get-set_same c.processes a.0 v s at

    -- which leaves the same
    pub swapped : over p q early ≡ made_ready a (over p q c)
    swapped =
        ap (over p q) early_is
        ∙ ap (λ (xs : List ProcessState). record c { running = None; processes = xs; regions = ready_in (front_of s.side) a c.regions }) (set_swap c.processes a.0 p.0 v (over_state q) (λ e. apart (sym e)))
        ∙ sym (ap (λ o. record (over p q c) { processes = set_at o (λ s. record s { latest = Ready }) a (over p q c).processes; regions = ready_in (front_of (side_in o)) a c.regions }) at_over)
      where
        at_over : process_at (over p q c) a ≡ Some s
        at_over = slice_get-set_other c.processes p.0 a.0 (over_state q) (λ e. apart (sym e)) ∙ at

    complete : is_complete (without d c k p q is) s.latest ≡ true → IsSound d (made_ready a (ended p c))
    complete h =
        let sound : IsSound d early = early_sound h in
        let here : process_at early p ≡ Some q = other_process a p c apart ∙ is in
        let ends : IsSound d (ended p early) = ended_sound d early sound p q here (λ x. not_parked q.latest (runs_calm d c k p r q is)) ready_then in
        subst (IsSound d) (ended_is d early sound p r q here ∙ swapped ∙ ap (made_ready a) (sym (ended_is d c k p r q is))) ends
      where
        ready_then : (b : ProcessId) (t : ProcessState) → q.parent ≡ Some b → process_at early b ≡ Some t → is_complete (slice_set early.processes p.0 (over_state q)) t.latest ≡ false
        ready_then b t g e =
            let same : v ≡ t = some_same (sym at_early ∙ ap (process_at early) (some_same (sym parent ∙ g)) ∙ e) in
            ap (λ (u : ProcessState). is_complete (slice_set early.processes p.0 (over_state q)) u.latest) (sym same)

    pub joins_sound : IsSound d (all_made_ready (joined (ended p c)) (ended p c))
    joins_sound = subst (λ ps. IsSound d (all_made_ready ps (ended p c))) (sym (joined_is d c k p q is a s parent at)) (by_test (is_complete (without d c k p q is) s.latest) refl)
      where
        by_test : (b : Bool) → is_complete (without d c k p q is) s.latest ≡ b → IsSound d (all_made_ready (if b then a ∷ [] else []) (ended p c))
        by_test true e = complete e
        by_test false e = not_complete e

  pub join_sound : IsSome q.parent → IsSound d (all_made_ready (joined (ended p c)) (ended p c))
  join_sound h = by_parent q.parent refl h
    where
      by_parent : (o : Option ProcessId) → q.parent ≡ o → IsSome o → IsSound d (all_made_ready (joined (ended p c)) (ended p c))
      by_parent None e h = absurd (cc)
      by_parent (Some a) e h = let t = parent_of d c k p q is a e in joins_sound a t.0 e t.1
