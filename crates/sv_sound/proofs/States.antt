-- The states of the processes of a design.
use Rattle.std.proofs.Common.{ℕ, zero, suc, ◌≡◌, ◌+◌, ◌≤◌, List, [], ◌∷◌, ◌++◌, None, Some, Bool, true, false, cond, refl, ap, subst, sym, ◌∙◌, arith, length, slice_get, slice_set}
use Rattle.std.specs.Prelude.{IsSome, is_some, not, ◌&&◌, ◌||◌, filter, if◌then◌else◌}
use Rattle.std.specs.List.{AllByRecursion}
use Rattle.sv_value.specs.declared.number.ProcessId.{ProcessId}
use Rattle.sv_flat.specs.declared.process.Process.{Process}
use Rattle.sv_flat.specs.Process
use Rattle.sv_flat.specs.Process.{ProcessState, Status, Ready, Running, Waiting, Moment, Turn_in_slot, Watches, Children, Queue, Start, Todo}
use Rattle.sv_flat.specs.Config.{starts, numbered_from}
use Rattle.sv_sound.specs.Sound.{is_parked, IsPlainTodo, AreAwaited, is_pending, pending_count, IsStateOf, is_held, IsForked, AreStates}
use Rattle.sv_sound.proofs.Weights.{all_append, all_set, all_at}

-- what is known of the state of any process
pub record IsPlainState (q : ProcessState) : Type 0 where
  pub program : q.program ≡ None
  pub rest : AllByRecursion IsPlainTodo q.rest
  pub awaits : AreAwaited q.latest

some_same : {A : Type 0} {a b : A} → Some a ≡ Some b → a ≡ b
some_same h = cc

-- a forked process in another state
forked_again : (q v : ProcessState) → IsForked q → v.program ≡ q.program → v.parent ≡ q.parent → AllByRecursion IsPlainTodo v.rest → AreAwaited v.latest → is_held v.latest ≡ false → IsForked v
forked_again q v k g a t w l = record { program = g ∙ k.program; forked = ap is_some a ∙ k.forked; rest = t; awaits = w; free = l }

module _ (x : Bool) where
  -- there are no fewer than the design begins with
  pub states_few : (fs : List Process) (qs : List ProcessState) → AreStates x fs qs → length fs ≤ length qs
  states_few [] qs h = omega arith
  states_few (f ∷ fs) (q ∷ qs) h = let k = states_few fs qs h.1 in omega (arith, k)
  states_few (f ∷ fs) [] h = absurd h

  -- the state of a process of the design
  pub state_found : (fs : List Process) (qs : List ProcessState) (i : ℕ) (f : Process) (q : ProcessState) → AreStates x fs qs → slice_get fs i ≡ Some f → slice_get qs i ≡ Some q
      → IsStateOf x f q
  state_found [] qs i f q h a e = absurd (cc)
  state_found (g ∷ fs) (r ∷ qs) zero f q h a e = subst (IsStateOf x f) (some_same e) (subst (λ g. IsStateOf x g r) (some_same a) h.0)
  state_found (g ∷ fs) (r ∷ qs) (suc i) f q h a e = state_found fs qs i f q h.1 a e
  state_found (g ∷ fs) [] i f q h a e = absurd h

  -- of one that a fork made
  pub state_forked : (fs : List Process) (qs : List ProcessState) (i : ℕ) (q : ProcessState) → AreStates x fs qs → slice_get fs i ≡ None → slice_get qs i ≡ Some q → IsForked q
  state_forked [] qs i q h a e = all_at IsForked qs i q e h
  state_forked (g ∷ fs) (r ∷ qs) zero q h a e = absurd (cc)
  state_forked (g ∷ fs) (r ∷ qs) (suc i) q h a e = state_forked fs qs i q h.1 a e
  state_forked (g ∷ fs) [] i q h a e = absurd h

  -- of any
  pub state_plain : (fs : List Process) (qs : List ProcessState) (i : ℕ) (q : ProcessState) → AreStates x fs qs → slice_get qs i ≡ Some q → IsPlainState q
  state_plain [] qs i q h e = let k = all_at IsForked qs i q e h in record { program = k.program; rest = k.rest; awaits = k.awaits }
  state_plain (f ∷ fs) (r ∷ qs) zero q h e = subst IsPlainState (some_same e) (record { program = h.0.program; rest = h.0.rest; awaits = h.0.awaits })
  state_plain (f ∷ fs) (r ∷ qs) (suc i) q h e = state_plain fs qs i q h.1 e
  state_plain (f ∷ fs) [] i q h e = absurd h

  -- whoever has a parent was forked
  pub parent_forked : (fs : List Process) (qs : List ProcessState) (i : ℕ) (q : ProcessState) → AreStates x fs qs → slice_get qs i ≡ Some q → IsSome q.parent → slice_get fs i ≡ None
  parent_forked [] qs i q h e a = refl
  parent_forked (f ∷ fs) (r ∷ qs) zero q h e a =
      let z : is_some q.parent ≡ false = ap (λ (u : ProcessState). is_some u.parent) (sym (some_same e)) ∙ ap is_some h.0.parent in
      absurd (let y : true ≡ false = sym a ∙ z in cc)
  parent_forked (f ∷ fs) (r ∷ qs) (suc i) q h e a = parent_forked fs qs i q h.1 e a
  parent_forked (f ∷ fs) [] i q h e a = absurd h

  -- a process that does not wait for its start may come into any state of that kind
  pub set_free : (fs : List Process) (qs : List ProcessState) (i : ℕ) (q : ProcessState) → AreStates x fs qs → slice_get qs i ≡ Some q → (x ≡ true → is_held q.latest ≡ false)
      → (v : ProcessState) → v.side ≡ q.side → v.program ≡ q.program → v.parent ≡ q.parent → AllByRecursion IsPlainTodo v.rest → AreAwaited v.latest → is_held v.latest ≡ false
      → AreStates x fs (slice_set qs i v)
  set_free [] qs i q h e free v s g a t w l = all_set IsForked qs i v (forked_again q v (all_at IsForked qs i q e h) g a t w l) h
  set_free (f ∷ fs) (r ∷ qs) zero q h e free v s g a t w l =
      let k : IsStateOf x f q = subst (IsStateOf x f) (some_same e) h.0 in (
        record {
          side = s ∙ k.side;
          program = g ∙ k.program;
          parent = a ∙ k.parent;
          rest = t;
          awaits = w;
          held = λ y z. absurd (let n : true ≡ false = sym (ap is_held (k.held y z)) ∙ free y in cc);
        },
        h.1,
      )
  set_free (f ∷ fs) (r ∷ qs) (suc i) q h e free v s g a t w l = (h.0, set_free fs qs i q h.1 e free v s g a t w l)
  set_free (f ∷ fs) [] i q h e free v s g a t w l = absurd h

  -- one more, which a fork made
  pub states_more : (fs : List Process) (qs : List ProcessState) (v : ProcessState) → AreStates x fs qs → IsForked v → AreStates x fs (qs ++ v ∷ [])
  states_more [] qs v h k = all_append IsForked qs (v ∷ []) h (k, tt)
  states_more (f ∷ fs) (q ∷ qs) v h k = (h.0, states_more fs qs v h.1 k)
  states_more (f ∷ fs) [] v h k = absurd h

  -- fewer starters are to come
  pub weaker : (y : Bool) → (y ≡ true → x ≡ true) → (fs : List Process) (qs : List ProcessState) → AreStates x fs qs → AreStates y fs qs
  weaker y l [] qs h = h
  weaker y l (f ∷ fs) (q ∷ qs) h =
      (record { side = h.0.side; program = h.0.program; parent = h.0.parent; rest = h.0.rest; awaits = h.0.awaits; held = λ z c. h.0.held (l z) c }, weaker y l fs qs h.1)
  weaker y l (f ∷ fs) [] h = absurd h

-- ---- starters that are to come

pub pending_same : (fs : List Process) (qs : List ProcessState) (i : ℕ) (q v : ProcessState) → slice_get qs i ≡ Some q → v.was_taken ≡ q.was_taken
    → is_pending fs (slice_set qs i v) ≡ is_pending fs qs
pending_same [] qs i q v e h = refl
pending_same (f ∷ fs) [] i q v e h = refl
pending_same (f ∷ fs) (r ∷ qs) zero q v e h =
    ap (λ b. (starts f && not b) || is_pending fs qs) (h ∙ sym (ap (λ (u : ProcessState). u.was_taken) (some_same e)))
pending_same (f ∷ fs) (r ∷ qs) (suc i) q v e h = ap (λ b. (starts f && not r.was_taken) || b) (pending_same fs qs i q v e h)

pub pending_more : (x : Bool) (fs : List Process) (qs : List ProcessState) (v : ProcessState) → AreStates x fs qs → is_pending fs (qs ++ v ∷ []) ≡ is_pending fs qs
pending_more x [] qs v h = refl
pending_more x (f ∷ fs) (q ∷ qs) v h = ap (λ b. (starts f && not q.was_taken) || b) (pending_more x fs qs v h.1)
pending_more x (f ∷ fs) [] v h = absurd h

either_left : (a b : Bool) → (a || b) ≡ true → (a ≡ false) → b ≡ true
either_left true b h k = absurd (cc)
either_left false b h k = h

pub pending_taken : (fs : List Process) (qs : List ProcessState) (i : ℕ) (v : ProcessState) → v.was_taken ≡ true
    → is_pending fs (slice_set qs i v) ≡ true → is_pending fs qs ≡ true
pending_taken [] qs i v h k = absurd (cc)
pending_taken (f ∷ fs) [] i v h k = absurd (cc)
pending_taken (f ∷ fs) (r ∷ qs) zero v h k = by_tests (starts f) (not r.was_taken) (is_pending fs qs) (ap (λ b. (starts f && not b) || is_pending fs qs) (sym h) ∙ k)
  where
    by_tests : (a b p : Bool) → ((a && false) || p) ≡ true → ((a && b) || p) ≡ true
    by_tests true true p e = refl
    by_tests true false p e = e
    by_tests false b p e = e
pending_taken (f ∷ fs) (r ∷ qs) (suc i) v h k = by_test (starts f && not r.was_taken) k (pending_taken fs qs i v h)
  where
    by_test : (a : Bool) → (a || is_pending fs (slice_set qs i v)) ≡ true → (is_pending fs (slice_set qs i v) ≡ true → is_pending fs qs ≡ true) → (a || is_pending fs qs) ≡ true
    by_test true e i = refl
    by_test false e i = i e

-- ---- statuses

-- one that is not parked does not wait for its start
pub not_parked : (s : Status) → is_parked s ≡ false → is_held s ≡ false
not_parked (Waiting Start) h = absurd (cc)
not_parked (Waiting (Watches ws scope)) h = refl
not_parked (Waiting Moment) h = refl
not_parked (Waiting Turn_in_slot) h = refl
not_parked (Waiting (Children all ps)) h = refl
not_parked (Waiting Queue) h = refl
not_parked Ready h = refl
not_parked Running h = refl
not_parked Process.Ended h = refl

-- and waits for no event expressions
pub calm_awaits : (s : Status) → is_parked s ≡ false → AreAwaited s
calm_awaits (Waiting (Watches ws scope)) h = absurd (cc)
calm_awaits (Waiting Moment) h = tt
calm_awaits (Waiting Turn_in_slot) h = tt
calm_awaits (Waiting (Children all ps)) h = tt
calm_awaits (Waiting Queue) h = tt
calm_awaits (Waiting Start) h = tt
calm_awaits Ready h = tt
calm_awaits Running h = tt
calm_awaits Process.Ended h = tt

-- ---- how many starters are to come

pub pending_none : (fs : List Process) (qs : List ProcessState) → pending_count fs qs ≡ 0 → is_pending fs qs ≡ false
pending_none [] qs h = refl
pending_none (f ∷ fs) [] h = refl
pending_none (f ∷ fs) (q ∷ qs) h = by_test (starts f && not q.was_taken) h (pending_none fs qs)
  where
    by_test : (b : Bool) → (if b then 1 else 0) + pending_count fs qs ≡ 0 → (pending_count fs qs ≡ 0 → is_pending fs qs ≡ false) → (b || is_pending fs qs) ≡ false
    by_test true e i = absurd (omega (arith, e))
    by_test false e i = i (omega (arith, e))

-- a test by number that tells the starters that are to come
pub record TellsPending (g : ProcessId → Bool) (n : ℕ) (fs : List Process) (qs : List ProcessState) : Type 0 where
  pub at : (i : ℕ) (f : Process) (q : ProcessState) → slice_get fs i ≡ Some f → slice_get qs i ≡ Some q → g (record { 0 = n + i }) ≡ (starts f && not q.was_taken)
  pub beyond : (i : ℕ) → slice_get fs i ≡ None → g (record { 0 = n + i }) ≡ false

pub pending_counted : (x : Bool) (g : ProcessId → Bool) (n : ℕ) (fs : List Process) (qs : List ProcessState) → AreStates x fs qs → TellsPending g n fs qs
    → length (filter g (numbered_from n qs)) ≡ pending_count fs qs
pending_counted x g n [] qs h t = none_counted n qs (λ i. t.beyond i refl)
  where
    none_counted : (n : ℕ) (qs : List ProcessState) → ((i : ℕ) → g (record { 0 = n + i }) ≡ false) → length (filter g (numbered_from n qs)) ≡ 0
    none_counted n [] t = refl
    none_counted n (q ∷ qs) t =
        let here : g (record { 0 = n }) ≡ false = (let z : n ≡ n + 0 = omega arith in ap (λ m. g (record { 0 = m })) z ∙ t 0) in
        ap (λ b. length (cond b (record { 0 = n } ∷ filter g (numbered_from (n + 1) qs)) (filter g (numbered_from (n + 1) qs)))) here
        ∙ none_counted (n + 1) qs (λ i. (let z : n + 1 + i ≡ n + suc i = omega arith in ap (λ m. g (record { 0 = m })) z ∙ t (suc i)))
pending_counted x g n (f ∷ fs) (q ∷ qs) h t =
    let here : g (record { 0 = n }) ≡ (starts f && not q.was_taken) = (let z : n ≡ n + 0 = omega arith in ap (λ m. g (record { 0 = m })) z ∙ t.at 0 f q refl refl) in
    let later : TellsPending g (n + 1) fs qs = record {
      at = λ i f q a b. (let z : n + 1 + i ≡ n + suc i = omega arith in ap (λ m. g (record { 0 = m })) z ∙ t.at (suc i) f q a b);
      beyond = λ i a. (let z : n + 1 + i ≡ n + suc i = omega arith in ap (λ m. g (record { 0 = m })) z ∙ t.beyond (suc i) a);
    } in
    ap (λ b. length (cond b (record { 0 = n } ∷ filter g (numbered_from (n + 1) qs)) (filter g (numbered_from (n + 1) qs)))) here
    ∙ by_test (starts f && not q.was_taken) (pending_counted x g (n + 1) fs qs h.1 later)
  where
    by_test : (b : Bool) → length (filter g (numbered_from (n + 1) qs)) ≡ pending_count fs qs
        → length (cond b (record { 0 = n } ∷ filter g (numbered_from (n + 1) qs)) (filter g (numbered_from (n + 1) qs))) ≡ (if b then 1 else 0) + pending_count fs qs
    by_test true i = let e = i in omega (arith, e)
    by_test false i = let e = i in omega (arith, e)
pending_counted x g n (f ∷ fs) [] h t = absurd h
