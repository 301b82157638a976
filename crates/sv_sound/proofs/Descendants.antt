-- The descendants of the process that runs end, one after another.
use Rattle.std.proofs.Common.{ℕ, zero, suc, ◌≡◌, ◌≢◌, ◌+◌, ◌≤◌, ◌<◌, List, [], ◌∷◌, Option, None, Some, Bool, true, false, cond, refl, ap, sym, ◌∙◌, arith, length, slice_get, slice_set, inl, inr}
use Rattle.std.specs.Prelude.{◌⊎◌, filter, not, is_some, IsSome, ◌==◌, ◌&&◌, ◌||◌, if◌then◌else◌}
use Rattle.std.proofs.lemmas.Bool.Decides.{nat_tests}
use Rattle.sv_value.specs.declared.number.ProcessId.{ProcessId}
use Rattle.sv_flat.specs.declared.design.Parts.{Parts}
use Rattle.sv_flat.specs.Process
use Rattle.sv_flat.specs.Process.{ProcessState, Status, Ready, Running, Waiting, Moment, Turn_in_slot, Watches, Children, Queue, Start}
use Rattle.sv_flat.specs.Config.{Config, process_at, set_at, numbered_from, state_test}
use Rattle.sv_flat.specs.Effects.Ends.{ended, all_ended, is_running, is_ended, parent_in, descends_within, descendants}
use Rattle.sv_sound.specs.Sound.{IsSound, is_pending}
use Rattle.sv_sound.proofs.States.{parent_forked}
use Rattle.sv_sound.proofs.Related.{tested_set, is_joining, not_joining, no_children}
use Rattle.sv_sound.proofs.Wakes.{slice_get-set_same, slice_get-set_other}
use Rattle.sv_sound.proofs.Changes.{forked_at}
use Rattle.sv_sound.proofs.Running.{runs_calm}
use Rattle.sv_sound.proofs.Ended.{over_state, ended_sound, without, parent_of, parent_before}

same_number : (p q : ProcessId) → (p.0 == q.0) ≡ true → p ≡ q
same_number p q h = let e : p.0 ≡ q.0 = grind (arith, nat_tests) in λ i. record { 0 = e i }

-- a process that may end while another one runs
pub record Ends (d : Parts) (p i : ProcessId) (c : Config) : Type 0 where
  pub sound : IsSound d c
  pub running : c.running ≡ Some p
  pub other : i.0 ≢ p.0
  pub state : ProcessState
  pub is : process_at c i ≡ Some state
  pub living : is_ended state.latest ≡ false
  pub forked : IsSome state.parent
  -- its parent does not wait for it
  pub alone : (a : ProcessId) (s : ProcessState) → state.parent ≡ Some a → process_at c a ≡ Some s → is_joining s.latest ≡ false

-- each of these may, one after another
abbrev pub MayEnd : Parts → ProcessId → List ProcessId → Config → Type 0
MayEnd d p [] c = IsSound d c × (c.running ≡ Some p)
MayEnd d p (i ∷ is) c = Ends d p i c × MayEnd d p is (ended i c)

module _ (d : Parts) (p i : ProcessId) (c : Config) (h : Ends d p i c) where
  -- what is left is sound
  pub ends_sound : IsSound d (ended i c)
  ends_sound =
      ended_sound d c h.sound i h.state h.is
      (λ x. (forked_at d c h.sound i h.state (parent_forked (is_pending d.processes c.processes) d.processes c.processes i.0 h.state h.sound.states h.is h.forked) h.is).free)
      (λ a s e g. (no_children (without d c h.sound i h.state h.is) a s.latest (h.alone a s e g)).1)

  pub ends_running : (ended i c).running ≡ Some p
  ends_running = ap (λ o. if is_running o i then None else o) h.running ∙ by_test (p.0 == i.0) refl
    where
      by_test : (b : Bool) → (p.0 == i.0) ≡ b → (if b then None else Some p) ≡ Some p
      by_test false e = refl
      by_test true e = let same : p.0 ≡ i.0 = grind (arith, nat_tests) in absurd (h.other (sym same))

  pub ends_processes : (ended i c).processes ≡ slice_set c.processes i.0 (over_state h.state)
  ends_processes = ap (λ o. set_at o over_state i c.processes) h.is

pub all_ended_sound : (d : Parts) (p : ProcessId) (is : List ProcessId) (c : Config) → MayEnd d p is c → IsSound d (all_ended is c)
all_ended_sound d p [] c h = h.0
all_ended_sound d p (i ∷ is) c h = all_ended_sound d p is (ended i c) h.1

more_fuel : (c : Config) (p : ProcessId) (n : ℕ) (o : Option ProcessId) → descends_within n c o p ≡ true → descends_within (suc n) c o p ≡ true
more_fuel c p zero o h = absurd (cc)
more_fuel c p (suc n) None h = absurd (cc)
more_fuel c p (suc n) (Some q) h = by_test (is_running (parent_in (process_at c q)) p) h (more_fuel c p n (parent_in (process_at c q)))
  where
    by_test : (b : Bool) → (b || descends_within n c (parent_in (process_at c q)) p) ≡ true
        → (descends_within n c (parent_in (process_at c q)) p ≡ true → descends_within (suc n) c (parent_in (process_at c q)) p ≡ true)
        → (b || descends_within (suc n) c (parent_in (process_at c q)) p) ≡ true
    by_test true e i = refl
    by_test false e i = i e

-- the parent of a process that descends from another one is that one, or descends from it
parent_descends : (c : Config) (p i a : ProcessId) (n : ℕ) → parent_in (process_at c i) ≡ Some a → descends_within n c (Some i) p ≡ true → (a ≡ p) ⊎ (descends_within n c (Some a) p ≡ true)
parent_descends c p i a zero e h = absurd (cc)
parent_descends c p i a (suc n) e h =
    by_test (a.0 == p.0) refl (ap (λ o. is_running o p || descends_within n c o p) (sym e) ∙ h)
  where
    by_test : (b : Bool) → (a.0 == p.0) ≡ b → (b || descends_within n c (Some a) p) ≡ true → (a ≡ p) ⊎ (descends_within (suc n) c (Some a) p ≡ true)
    by_test true t g = inl (same_number a p t)
    by_test false t g = inr (more_fuel c p n (Some a) g)

no_parent_descends : (c : Config) (p i : ProcessId) (n : ℕ) → parent_in (process_at c i) ≡ None → descends_within n c (Some i) p ≡ false
no_parent_descends c p i zero e = refl
no_parent_descends c p i (suc n) e = ap (λ o. is_running o p || descends_within n c o p) e ∙ none n
  where
    none : (n : ℕ) → descends_within n c None p ≡ false
    none zero = refl
    none (suc n) = refl

module _ (d : Parts) (c : Config) (k : IsSound d c) (p : ProcessId) (r : c.running ≡ Some p) where
  -- whoever descends from a process came after it
  descends_after : (n : ℕ) (i : ProcessId) (q : ProcessState) → process_at c i ≡ Some q → descends_within n c (Some i) p ≡ true → p.0 < i.0
  descends_after zero i q is h = absurd (cc)
  descends_after (suc n) i q is h = by_parent q.parent refl (λ a s e g. descends_after n a s e g)
    where
      parent : parent_in (process_at c i) ≡ q.parent
      parent = ap parent_in is

      by_parent : (o : Option ProcessId) → q.parent ≡ o → ((a : ProcessId) (s : ProcessState) → process_at c a ≡ Some s → descends_within n c (Some a) p ≡ true → p.0 < a.0) → p.0 < i.0
      by_parent None e up = let z : false ≡ true = sym (no_parent_descends c p i (suc n) (parent ∙ e)) ∙ h in absurd (cc)
      by_parent (Some a) e up = by_test (a.0 == p.0) refl (ap (λ o. is_running o p || descends_within n c o p) (sym (parent ∙ e)) ∙ h)
        where
          a_there : (s : ProcessState) × (process_at c a ≡ Some s)
          a_there = parent_of d c k i q is a e

          a_before : a.0 < i.0
          a_before = parent_before d c k i q is a a_there.0 e a_there.1

          by_test : (b : Bool) → (a.0 == p.0) ≡ b → (b || descends_within n c (Some a) p) ≡ true → p.0 < i.0
          by_test true t g = let same : a.0 ≡ p.0 = grind (arith, nat_tests) in let l = a_before in omega (arith, same, l)
          by_test false t g = let l = a_before in let m = up a a_there.0 a_there.1 g in omega (arith, l, m)

  test : ProcessId → Bool
  test i = state_test (λ s. descends_within (length c.processes) c (Some i) p && not (is_ended s.latest)) (process_at c i)

  abbrev joins_at : Config → ProcessId → Bool
  joins_at e i = state_test (λ s. is_joining s.latest) (process_at e i)

  -- those before this number have ended
  record SoFar (n : ℕ) (e : Config) : Type 0 where
    pub sound : IsSound d e
    pub running : e.running ≡ Some p
    pub same : (i : ProcessId) → n ≤ i.0 → process_at e i ≡ process_at c i
    pub fewer : (i : ProcessId) → joins_at e i ≡ true → joins_at c i ≡ true
    pub gone : (i : ProcessId) → i.0 < n → test i ≡ true → joins_at e i ≡ false

  may_end : (n : ℕ) (e : Config) → SoFar n e → (i : ProcessId) → i.0 ≡ n → test i ≡ true → Ends d p i e
  unfolding test
  may_end n e h i at t = by_state (process_at c i) refl t
    where
      and_left : (a b : Bool) → (a && b) ≡ true → a ≡ true
      and_left true b h = refl
      and_left false b h = absurd (cc)

      and_not : (a b : Bool) → (a && not b) ≡ true → b ≡ false
      and_not true false h = refl
      and_not true true h = absurd (cc)
      and_not false b h = absurd (cc)

      by_state : (o : Option ProcessState) → process_at c i ≡ o → state_test (λ s. descends_within (length c.processes) c (Some i) p && not (is_ended s.latest)) o ≡ true → Ends d p i e
      by_state None is g = absurd (cc)
      by_state (Some q) is g =
          let descends : descends_within (length c.processes) c (Some i) p ≡ true = and_left _ (not (is_ended q.latest)) g in
          let after : p.0 < i.0 = descends_after (length c.processes) i q is descends in
          record {
            sound = h.sound;
            running = h.running;
            other = λ z. absurd (omega (arith, after, z));
            state = q;
            is = h.same i (omega (arith, at)) ∙ is;
            living = and_not _ (is_ended q.latest) g;
            forked = has_parent q.parent refl descends;
            alone = λ a s f j. is_alone a s f j descends;
          }
        where
          has_parent : (o : Option ProcessId) → q.parent ≡ o → descends_within (length c.processes) c (Some i) p ≡ true → is_some q.parent ≡ true
          has_parent None f u = let z : false ≡ true = sym (no_parent_descends c p i (length c.processes) (ap parent_in is ∙ f)) ∙ u in absurd (cc)
          has_parent (Some a) f u = ap is_some f

          is_alone : (a : ProcessId) (s : ProcessState) → q.parent ≡ Some a → process_at e a ≡ Some s → descends_within (length c.processes) c (Some i) p ≡ true → is_joining s.latest ≡ false
          is_alone a s f j u = by_place (parent_descends c p i a (length c.processes) (ap parent_in is ∙ f) u)
            where
              there_c : (t : ProcessState) × (process_at c a ≡ Some t)
              there_c = parent_of d c k i q is a f

              before : a.0 < n
              before = let l = parent_before d c k i q is a there_c.0 f there_c.1 in omega (arith, l, at)

              by_ended : (b : Bool) → is_ended (there_c.0).latest ≡ b → descends_within (length c.processes) c (Some a) p ≡ true → is_joining s.latest ≡ false
              by_ended false z v =
                  let passes : test a ≡ true =
                  ap (state_test (λ s. descends_within (length c.processes) c (Some a) p && not (is_ended s.latest))) there_c.1
                  ∙ ap (λ b. b && not (is_ended (there_c.0).latest)) v ∙ ap not z in
                  ap (state_test (λ s. is_joining s.latest)) (sym j) ∙ h.gone a before passes
              by_ended true z v = by_joining (is_joining s.latest) refl
                where
                  ended_no : (l : Status) → is_ended l ≡ true → is_joining l ≡ false
                  ended_no Process.Ended g = refl
                  ended_no l g = absurd (cc)

                  by_joining : (b : Bool) → is_joining s.latest ≡ b → is_joining s.latest ≡ false
                  by_joining false g = g
                  by_joining true g =
                      let m : is_joining (there_c.0).latest ≡ true =
                      ap (state_test (λ s. is_joining s.latest)) (sym there_c.1) ∙ h.fewer a (ap (state_test (λ s. is_joining s.latest)) j ∙ g) in
                      let y : false ≡ true = sym (ended_no (there_c.0).latest z) ∙ m in
                      absurd (cc)

              by_place : (a ≡ p) ⊎ (descends_within (length c.processes) c (Some a) p ≡ true) → is_joining s.latest ≡ false
              by_place (inl z) = not_joining s.latest (runs_calm d e h.sound p h.running s (ap (process_at e) (sym z) ∙ j))
              by_place (inr v) = by_ended (is_ended (there_c.0).latest) refl v

  -- one more has ended
  one_more : (n : ℕ) (e : Config) → SoFar n e → (i : ProcessId) → i.0 ≡ n → (x : Ends d p i e) → SoFar (n + 1) (ended i e)
  unfolding test
  one_more n e h i at x =
      let qs = ends_processes d p i e x in
      record {
        sound = ends_sound d p i e x;
        running = ends_running d p i e x;
        same = λ j l. ap (λ (xs : List ProcessState). slice_get xs j.0) qs ∙ slice_get-set_other e.processes i.0 j.0 (over_state x.state) (λ z. absurd (omega (arith, z, l, at))) ∙ h.same j (omega (arith, l));
        fewer = λ j g. h.fewer j (tested_set (state_test (λ s. is_joining s.latest)) e.processes i.0 j.0 x.state (over_state x.state) x.is (λ z. absurd (cc))
            (ap (λ (xs : List ProcessState). state_test (λ s. is_joining s.latest) (slice_get xs j.0)) (sym qs) ∙ g));
        gone = λ j l t. ap (λ (xs : List ProcessState). state_test (λ s. is_joining s.latest) (slice_get xs j.0)) qs ∙ by_test j l t (j.0 == n) refl;
      }
    where
      by_test : (j : ProcessId) → j.0 < n + 1 → test j ≡ true → (b : Bool) → (j.0 == n) ≡ b → state_test (λ s. is_joining s.latest) (slice_get (slice_set e.processes i.0 (over_state x.state)) j.0) ≡ false
      by_test j l t true z =
          let same : i.0 ≡ j.0 = (let y : j.0 ≡ n = grind (arith, nat_tests) in omega (arith, y, at)) in
          ap (λ m. state_test (λ s. is_joining s.latest) (slice_get (slice_set e.processes i.0 (over_state x.state)) m)) (sym same)
          ∙ ap (state_test (λ s. is_joining s.latest)) (slice_get-set_same e.processes i.0 (over_state x.state) x.state x.is)
      by_test j l t false z =
          let apart : j.0 ≢ n = grind (arith, nat_tests) in
          ap (state_test (λ s. is_joining s.latest)) (slice_get-set_other e.processes i.0 j.0 (over_state x.state) (λ y. apart (y ∙ at))) ∙ h.gone j (omega (arith, l, apart)) t

  none_more : (n : ℕ) (e : Config) → SoFar n e → (i : ProcessId) → i.0 ≡ n → test i ≡ false → SoFar (n + 1) e
  none_more n e h i at f =
      record {
        sound = h.sound;
        running = h.running;
        same = λ j l. h.same j (omega (arith, l));
        fewer = h.fewer;
        gone = λ j l t. by_test j l t (j.0 == n) refl;
      }
    where
      by_test : (j : ProcessId) → j.0 < n + 1 → test j ≡ true → (b : Bool) → (j.0 == n) ≡ b → joins_at e j ≡ false
      by_test j l t true z =
          let same : j ≡ i = (let y : j.0 ≡ n = grind (arith, nat_tests) in λ x. record { 0 = (y ∙ sym at) x }) in
          let y : true ≡ false = sym t ∙ ap test same ∙ f in
          absurd (cc)
      by_test j l t false z = let apart : j.0 ≢ n = grind (arith, nat_tests) in h.gone j (omega (arith, l, apart)) t

  from_number : {A : Type 0} (n : ℕ) (xs : List A) (e : Config) → SoFar n e → MayEnd d p (filter test (numbered_from n xs)) e
  from_number n [] e h = (h.sound, h.running)
  from_number {A} n (x ∷ xs) e h = by_test (test here) refl (λ u s. from_number (n + 1) xs u s)
    where
      here : ProcessId
      here = record { 0 = n }

      by_test : (b : Bool) → test here ≡ b → ((u : Config) → SoFar (n + 1) u → MayEnd d p (filter test (numbered_from (n + 1) xs)) u)
          → MayEnd d p (cond b (here ∷ filter test (numbered_from (n + 1) xs)) (filter test (numbered_from (n + 1) xs))) e
      by_test true t i = let x = may_end n e h here refl t in (x, i (ended here e) (one_more n e h here refl x))
      by_test false t i = i e (none_more n e h here refl t)

  -- all descendants of the process that runs may end, by number
  pub all_may_end : MayEnd d p (descendants c p) c
  unfolding test
  all_may_end = from_number 0 c.processes c (record { sound = k; running = r; same = λ i l. refl; fewer = λ i g. g; gone = λ i l t. absurd (omega (arith, l)) })
