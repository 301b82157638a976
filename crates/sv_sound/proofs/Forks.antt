-- A fork makes children, for which its process may wait.
use Rattle.std.proofs.Common.{ℕ, suc, ◌≡◌, ◌+◌, ◌≤◌, ◌<◌, List, [], ◌∷◌, ◌++◌, Option, None, Some, Bool, true, false, cond, refl, ap, subst, sym, ◌∙◌, arith, length, slice_get}
use Rattle.std.specs.Prelude.{◌^◌, filter, nat_lt, not, ◌==◌, ◌&&◌, ◌||◌, if◌then◌else◌}
use Rattle.std.specs.List.{AllByRecursion, list_all, list_any}
use Rattle.std.proofs.lemmas.Bool.Decides.{nat_tests}
use Rattle.sv_value.specs.declared.number.ProcessId.{ProcessId}
use Rattle.sv_value.specs.declared.number.RoutineId.{RoutineId}
use Rattle.sv_value.specs.declared.place.Place.{Place}
use Rattle.sv_value.specs.declared.place.FaultKind.TheVariants as fault
use Rattle.sv_value.specs.Regions.{front_of}
use Rattle.sv_flat.specs.declared.stmt.JoinKind.{JoinKind}
use Rattle.sv_flat.specs.declared.stmt.JoinKind.TheVariants as join
use Rattle.sv_flat.specs.declared.design.Parts.{Parts}
use Rattle.sv_flat.specs.State.{Name}
use Rattle.sv_flat.specs.Process.{ProcessState, Waiting, Children}
use Rattle.sv_flat.specs.Config.{Config, process_at, set_at, state_test, numbers_of, met_fault}
use Rattle.sv_flat.specs.Effects.Scheduling.{child_of, children_from, started, joining, spawned, awaiting, suspended}
use Rattle.sv_flat.specs.Effects.Ends.{is_ended, is_running, parent_in, living_children}
use Rattle.sv_built.specs.Built.{IsBuilt}
use Rattle.sv_sound.specs.Sound.{IsSound, is_pending, is_over_among, is_complete, IsChild}
use Rattle.sv_sound.specs.After.{waiting_for, with_child}
use Rattle.sv_sound.proofs.Weights.{within, ready_weight, parked_more, all_more}
use Rattle.sv_sound.proofs.Plain.{body_plain, plain_ready}
use Rattle.sv_sound.proofs.States.{states_more, pending_more}
use Rattle.sv_sound.proofs.Related.{get_before, get_last, get_none, related_more, made_more}
use Rattle.sv_sound.proofs.Changes.{plain_at}
use Rattle.sv_sound.proofs.Running.{rest_plain, parks_sound}

-- ---- a child more

module _ (d : Parts) (b : IsBuilt d) (c : Config) (k : IsSound d c) (p : ProcessId) (q : ProcessState) (is : process_at c p ≡ Some q) (r : RoutineId) (scope : Option Name) where
  pub child_sound : length c.processes < 2 ^ 18 → IsSound d (with_child d p q r scope c)
  child_sound l =
      let v : ProcessState = child_of d p r scope q in
      let plain = plain_at d c k p q is in
      record {
        no_heap = k.no_heap;
        no_clocks = k.no_clocks;
        no_monitor = k.no_monitor;
        plain = plain_ready (front_of q.side) (record { 0 = length c.processes }) c.regions k.plain;
        each_event = k.each_event;
        states = subst (λ x. Rattle.sv_sound.specs.Sound.AreStates x d.processes (c.processes ++ v ∷ [])) (sym (pending_more (is_pending d.processes c.processes) d.processes c.processes v k.states))
            (states_more (is_pending d.processes c.processes) d.processes c.processes v k.states
            (record { program = plain.program; forked = refl; rest = body_plain d b r scope; awaits = tt; free = refl }));
        related = related_more c.processes k.related p q is v refl refl refl l;
        made = made_more c.processes v c.activations k.made;
        weights = λ w.
            let h = k.weights w in
            let n = ready_weight w (front_of q.side) (record { 0 = length c.processes }) c.regions in
            let e = parked_more w 0 c.processes v refl in
            let a = all_more w c.processes v in
            omega (arith, h, n, e, a);
      }

-- ---- all of them

length-more : {A : Type 0} (xs : List A) (x : A) → length (xs ++ x ∷ []) ≡ length xs + 1
length-more [] x = refl
length-more (y ∷ xs) x = let e = length-more xs x in omega (arith, e)

-- what the start of so many children leaves
pub record Started (d : Parts) (p : ProcessId) (count : ℕ) (c e : Config) : Type 0 where
  pub sound : IsSound d e
  pub running : e.running ≡ c.running
  pub before : (i : ℕ) → i < length c.processes → slice_get e.processes i ≡ slice_get c.processes i
  pub fresh : (i : ProcessId) → length c.processes ≤ i.0 → is_over_among e.processes i ≡ false
  pub children : (i : ProcessId) → length c.processes ≤ i.0 → i.0 < length c.processes + count → IsChild e.processes p i

module _ (d : Parts) (b : IsBuilt d) (at : Place) (p : ProcessId) (q : ProcessState) (scope : Option Name) where
  abbrev more : RoutineId → Config → Config
  more r c = with_child d p q r scope c

  abbrev pub all_in : List RoutineId → Config → Config
  all_in rs c = started d at p scope q rs c

  pub all_started : (rs : List RoutineId) (c : Config) → IsSound d c → process_at c p ≡ Some q → Started d p (length rs) c (all_in rs c)
  all_started [] c k is = record {
    sound = k;
    running = refl;
    before = λ i l. refl;
    fresh = λ i l. ap (state_test (λ q. is_ended q.latest)) (get_none c.processes i.0 l);
    children = λ i l m. absurd (omega (arith, l, m));
  }
  all_started (r ∷ rs) c k is = by_test (nat_lt (length c.processes) (2 ^ 18)) refl (λ l. all_started rs (more r c) (child_sound d b c k p q is r scope l) (still l))
    where
      still : length c.processes < 2 ^ 18 → process_at (more r c) p ≡ Some q
      still l = get_before c.processes p.0 (child_of d p r scope q) (within c.processes p.0 q is) ∙ is

      longer : length (more r c).processes ≡ length c.processes + 1
      longer = length-more c.processes (child_of d p r scope q)

      by_test : (y : Bool) → nat_lt (length c.processes) (2 ^ 18) ≡ y → (length c.processes < 2 ^ 18 → Started d p (length rs) (more r c) (all_in rs (more r c)))
          → Started d p (suc (length rs)) c (if y then all_in rs (more r c) else met_fault fault.Processes at c)
      by_test false t i =
          let full : 2 ^ 18 ≤ length c.processes = grind (arith, nat_tests) in
          record {
            sound = k;
            running = refl;
            before = λ i l. refl;
            fresh = λ i l. ap (state_test (λ q. is_ended q.latest)) (get_none c.processes i.0 l);
            children = λ i l m n. absurd (omega (arith, l, n, full));
          }
      by_test true t i =
          let room : length c.processes < 2 ^ 18 = grind (arith, nat_tests) in
          let s = i room in
          let n = longer in
          record {
            sound = s.sound;
            running = s.running;
            before = λ i l. s.before i (omega (arith, l, n)) ∙ get_before c.processes i (child_of d p r scope q) l;
            fresh = λ i l. is_fresh i l s (i.0 == length c.processes) refl;
            children = λ i l m. is_child i l m s (i.0 == length c.processes) refl;
          }
        where
          here : Started d p (length rs) (more r c) (all_in rs (more r c)) → slice_get (all_in rs (more r c)).processes (length c.processes) ≡ Some (child_of d p r scope q)
          here s = s.before (length c.processes) (let n = longer in omega (arith, n)) ∙ get_last c.processes (child_of d p r scope q)

          is_fresh : (i : ProcessId) → length c.processes ≤ i.0 → Started d p (length rs) (more r c) (all_in rs (more r c)) → (y : Bool) → (i.0 == length c.processes) ≡ y
              → is_over_among (all_in rs (more r c)).processes i ≡ false
          is_fresh i l s true z =
              let same : i.0 ≡ length c.processes = grind (arith, nat_tests) in
              ap (λ m. state_test (λ q. is_ended q.latest) (slice_get (all_in rs (more r c)).processes m)) same ∙ ap (state_test (λ q. is_ended q.latest)) (here s)
          is_fresh i l s false z = let n = longer in s.fresh i (grind (arith, nat_tests))

          is_child : (i : ProcessId) → length c.processes ≤ i.0 → i.0 < length c.processes + suc (length rs) → Started d p (length rs) (more r c) (all_in rs (more r c))
              → (y : Bool) → (i.0 == length c.processes) ≡ y → IsChild (all_in rs (more r c)).processes p i
          is_child i l m s true z = λ x.
              let same : i.0 ≡ length c.processes = grind (arith, nat_tests) in
              ap (λ m. parent_in (slice_get (all_in rs (more r c)).processes m)) same ∙ ap parent_in (here s)
          is_child i l m s false z = let n = longer in let apart : length c.processes + 1 ≤ i.0 = grind (arith, nat_tests) in s.children i (omega (arith, n, apart)) (omega (arith, n, m))

-- ---- the process waits for children

none_over : {A : Type 0} (f : A → Bool) (xs : List A) → AllByRecursion (λ x. f x ≡ false) xs → list_any f xs ≡ false
none_over f [] h = refl
none_over f (x ∷ xs) h = ap (λ b. b || list_any f xs) h.0 ∙ none_over f xs h.1

numbers_keep : (P : ProcessId → Type 0) (n : ℕ) (rs : List RoutineId) → ((i : ProcessId) → n ≤ i.0 → i.0 < n + length rs → P i) → AllByRecursion P (children_from n rs)
numbers_keep P n [] h = tt
numbers_keep P n (r ∷ rs) h = (h (record { 0 = n }) (omega arith) (omega arith), numbers_keep P (n + 1) rs (λ i l m. h i (omega (arith, l)) (omega (arith, m))))

module _ (d : Parts) (c : Config) (k : IsSound d c) (p : ProcessId) (r : c.running ≡ Some p) (q : ProcessState) (is : process_at c p ≡ Some q) where
  pub suspends_is : (all : Bool) (rs : List ProcessId) → suspended p (Children all rs) c ≡ waiting_for p q all rs c
  suspends_is all rs = ap (λ o. record c { running = None; processes = set_at o (λ q. record q { latest = Waiting (Children all rs) }) p c.processes }) is

  -- for children of its own, of which none is over
  awaits_sound : (all : Bool) (i : ProcessId) (rs : List ProcessId) → AllByRecursion (IsChild c.processes p) (i ∷ rs) → AllByRecursion (λ i. is_over_among c.processes i ≡ false) (i ∷ rs)
      → IsSound d (suspended p (Children all (i ∷ rs)) c)
  awaits_sound all i rs h n =
      subst (IsSound d) (sym (suspends_is all (i ∷ rs)))
      (parks_sound d c k p r q is (record q { latest = Waiting (Children all (i ∷ rs)) }) refl refl refl refl (rest_plain d c k p r q is) tt refl refl refl (h, waits all))
    where
      waits : (all : Bool) → is_complete c.processes (Waiting (Children all (i ∷ rs))) ≡ false
      waits true = ap (λ b. b && list_all (is_over_among c.processes) rs) n.0
      waits false = none_over (is_over_among c.processes) (i ∷ rs) n

  pub joining_sound : (j : JoinKind) (rs : List ProcessId) → AllByRecursion (IsChild c.processes p) rs → AllByRecursion (λ i. is_over_among c.processes i ≡ false) rs → IsSound d (joining p j rs c)
  joining_sound join.All (i ∷ rs) h n = awaits_sound true i rs h n
  joining_sound join.Any (i ∷ rs) h n = awaits_sound false i rs h n
  joining_sound j rs h n = k

  -- for its living children
  abbrev test : ProcessId → Bool
  test i = state_test (λ s. is_running s.parent p && not (is_ended s.latest)) (process_at c i)

  pub await_sound : IsSound d (awaiting p (living_children c p) c)
  await_sound =
      by_list (living_children c p)
      (passed (IsChild c.processes p) (λ i h. child_of_test i h) (numbers_of c)) (passed (λ i. is_over_among c.processes i ≡ false) (λ i h. living_of_test i h) (numbers_of c))
    where
      passed : (P : ProcessId → Type 0) → ((i : ProcessId) → test i ≡ true → P i) → (ps : List ProcessId) → AllByRecursion P (filter test ps)
      passed P h [] = tt
      passed P h (i ∷ ps) = by_test (test i) refl (passed P h ps)
        where
          by_test : (y : Bool) → test i ≡ y → AllByRecursion P (filter test ps) → AllByRecursion P (cond y (i ∷ filter test ps) (filter test ps))
          by_test true e g = (h i e, g)
          by_test false e g = g

      same_parent : (o : Option ProcessId) → is_running o p ≡ true → o ≡ Some p
      same_parent None h = absurd (cc)
      same_parent (Some a) h = let e : a.0 ≡ p.0 = grind (arith, nat_tests) in λ i. Some (record { 0 = e i })

      and_left : (a b : Bool) → (a && b) ≡ true → a ≡ true
      and_left true b h = refl
      and_left false b h = absurd (cc)

      and_not : (a b : Bool) → (a && not b) ≡ true → b ≡ false
      and_not true false h = refl
      and_not true true h = absurd (cc)
      and_not false b h = absurd (cc)

      child_of_test : (i : ProcessId) → test i ≡ true → IsChild c.processes p i
      child_of_test i h l = by_state (process_at c i) h
        where
          by_state : (o : Option ProcessState) → state_test (λ s. is_running s.parent p && not (is_ended s.latest)) o ≡ true → parent_in o ≡ Some p
          by_state None h = absurd (cc)
          by_state (Some s) h = same_parent s.parent (and_left (is_running s.parent p) (not (is_ended s.latest)) h)

      living_of_test : (i : ProcessId) → test i ≡ true → is_over_among c.processes i ≡ false
      living_of_test i h = by_state (process_at c i) h
        where
          by_state : (o : Option ProcessState) → state_test (λ s. is_running s.parent p && not (is_ended s.latest)) o ≡ true → state_test (λ q. is_ended q.latest) o ≡ false
          by_state None h = refl
          by_state (Some s) h = and_not (is_running s.parent p) (is_ended s.latest) h

      by_list : (ps : List ProcessId) → AllByRecursion (IsChild c.processes p) ps → AllByRecursion (λ i. is_over_among c.processes i ≡ false) ps → IsSound d (awaiting p ps c)
      by_list [] h n = k
      by_list (i ∷ ps) h n = awaits_sound true i ps h n

-- ---- a fork

module _ (d : Parts) (b : IsBuilt d) (at : Place) (c : Config) (k : IsSound d c) (p : ProcessId) (r : c.running ≡ Some p) (q : ProcessState) (is : process_at c p ≡ Some q) where
  pub spawn_sound : (rs : List RoutineId) (scope : Option Name) (j : JoinKind) → IsSound d (spawned d at p rs scope j (Some q) c)
  spawn_sound rs scope j =
      let s = all_started d b at p q scope rs c k is in
      joining_sound d (started d at p scope q rs c) s.sound p (s.running ∙ r) q (s.before p.0 (within c.processes p.0 q is) ∙ is) j (children_from (length c.processes) rs)
      (numbers_keep (IsChild (started d at p scope q rs c).processes p) (length c.processes) rs s.children)
      (numbers_keep (λ i. is_over_among (started d at p scope q rs c).processes i ≡ false) (length c.processes) rs (λ i l m. s.fresh i l))
