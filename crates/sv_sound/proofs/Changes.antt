-- A sound configuration stays sound where a process becomes ready, a value changes, or a job is scheduled.
use Rattle.std.proofs.Common.{ℕ, ◌≡◌, ◌≢◌, ◌+◌, ◌≤◌, ◌<◌, List, [], ◌∷◌, Option, None, Some, Bool, true, false, cond, refl, ap, subst, sym, ◌∙◌, arith, length, slice_set}
use Rattle.std.specs.Prelude.{filter, ◌==◌}
use Rattle.std.specs.List.{AllByRecursion}
use Rattle.sv_value.specs.declared.number.ProcessId.{ProcessId}
use Rattle.sv_value.specs.declared.schedule.Side.{Side}
use Rattle.sv_value.specs.declared.schedule.Event.{Event}
use Rattle.sv_value.specs.declared.schedule.Job.{Job}
use Rattle.sv_value.specs.declared.schedule.Due.TheVariants.{Work}
use Rattle.sv_value.specs.Regions.{ready_in, front_of, job_in, updates_of}
use Rattle.sv_flat.specs.declared.process.Process.{Process}
use Rattle.sv_flat.specs.declared.design.Parts.{Parts}
use Rattle.sv_flat.specs.State.{Store, World, Activation}
use Rattle.sv_flat.specs.Process.{ProcessState, Status, Ready, Waiting, Watches, Children}
use Rattle.sv_flat.specs.Config.{Config, process_at, first_process, set_at, side_in, numbered_from, state_test, made_ready, all_made_ready}
use Rattle.sv_flat.specs.Woken.{Changed, wakes, is_woken}
use Rattle.sv_flat.specs.Effects.Ends.{is_ended}
use Rattle.sv_flat.specs.Effects.Scheduling.{scheduled, update_scheduled}
use Rattle.sv_sound.specs.Sound.{IsStateOf, is_held, IsForked, AreRelated, IsSound, IsPlainTodo, AreAwaited, IsPlainEvent, IsPlainJob, AreStates, is_pending, is_parked, weight, weight_of_all, weight_of_event, IsMadeBy}
use Rattle.sv_sound.specs.After.{with_values, changed_in, with_store, with_activations}
use Rattle.sv_sound.proofs.Weights.{all_append, pushed_weight, ready_weight, job_weight, parked_done, one, known_of, all_still}
use Rattle.sv_sound.proofs.Plain.{plain_ready, plain_job, plain_update}
use Rattle.sv_sound.proofs.States.{IsPlainState, states_few, state_plain, state_found, state_forked, set_free, pending_same}
use Rattle.sv_sound.proofs.Related.{is_joining, no_children, related_set, made_set}
use Rattle.sv_sound.proofs.Wakes.{AwaitBuilt, other_process}

-- ---- a process comes into another state

module _ (d : Parts) (c : Config) (k : IsSound d c) where
  abbrev pub pending : Bool
  pending = is_pending d.processes c.processes

  -- the design's processes are there
  pub all_there : length d.processes ≤ length c.processes
  all_there = states_few pending d.processes c.processes k.states

  pub plain_at : (p : ProcessId) (q : ProcessState) → process_at c p ≡ Some q → IsPlainState q
  plain_at p q is = state_plain pending d.processes c.processes p.0 q k.states is

  pub found_at : (p : ProcessId) (f : Process) (q : ProcessState) → first_process d p ≡ Some f → process_at c p ≡ Some q → IsStateOf pending f q
  found_at p f q first is = state_found pending d.processes c.processes p.0 f q k.states first is

  pub forked_at : (p : ProcessId) (q : ProcessState) → first_process d p ≡ None → process_at c p ≡ Some q → IsForked q
  forked_at p q first is = state_forked pending d.processes c.processes p.0 q k.states first is

  pub known : (p : ProcessId) → 0 < weight (one p) c → p.0 < length c.processes
  known p h =
      let w : weight (one p) c ≤ weight_of_all (one p) c.processes = k.weights (one p) in
      let n : p.0 < 0 + length c.processes = known_of p 0 c.processes (omega (arith, w, h)) in
      omega (arith, n)

  -- the states with a process in another one, which does not wait for its start
  pub states_with : (p : ProcessId) (q : ProcessState) → process_at c p ≡ Some q → (pending ≡ true → is_held q.latest ≡ false) → (v : ProcessState)
      → v.side ≡ q.side → v.program ≡ q.program → v.parent ≡ q.parent → v.was_taken ≡ q.was_taken → AllByRecursion IsPlainTodo v.rest → AreAwaited v.latest → is_held v.latest ≡ false
      → AreStates (is_pending d.processes (slice_set c.processes p.0 v)) d.processes (slice_set c.processes p.0 v)
  states_with p q is free v s g a t r w l =
      subst (λ x. AreStates x d.processes (slice_set c.processes p.0 v)) (sym (pending_same d.processes c.processes p.0 q v is t))
      (set_free pending d.processes c.processes p.0 q k.states is free v s g a r w l)

  -- all processes with one in another state, in which it waits for no children
  pub related_with : (p : ProcessId) (q : ProcessState) → process_at c p ≡ Some q → (v : ProcessState) → v.side ≡ q.side → v.parent ≡ q.parent
      → (is_ended v.latest ≡ true → is_ended q.latest ≡ true) → is_joining v.latest ≡ false → AreRelated (slice_set c.processes p.0 v)
  related_with p q is v s a o n = related_set c.processes k.related p q is v s a o (no_children c.processes p v.latest n)

  -- ---- wakes

  -- a process that waits for a change or for children becomes ready
  pub ready_sound : (p : ProcessId) (q : ProcessState) → process_at c p ≡ Some q → is_parked q.latest ≡ true → (pending ≡ true → is_held q.latest ≡ false) → IsSound d (made_ready p c)
  ready_sound p q is parked free =
      let v : ProcessState = record q { latest = Ready } in
      let rest = (plain_at p q is).rest in
      let g : Option ProcessState → Config = λ o. record c { processes = set_at o (λ s. record s { latest = Ready }) p c.processes; regions = ready_in (front_of (side_in o)) p c.regions } in
      subst (IsSound d) (sym (ap g is)) (record {
        no_heap = k.no_heap;
        no_clocks = k.no_clocks;
        no_monitor = k.no_monitor;
        plain = plain_ready (front_of q.side) p c.regions k.plain;
        each_event = k.each_event;
        states = states_with p q is free v refl refl refl refl rest tt refl;
        related = related_with p q is v refl refl (λ e. absurd (cc)) refl;
        made = made_set c.processes p.0 v c.activations k.made;
        weights = λ w.
            let h = k.weights w in
            let n = ready_weight w (front_of q.side) p c.regions in
            let e = parked_done w c.processes p q v is parked refl in
            let a = all_still w c.processes p.0 v in
            omega (arith, h, n, e, a);
      })

  -- whoever waits for event expressions waits for built ones
  pub await_built : AwaitBuilt c
  await_built = record { at = λ p q is. (plain_at p q is).awaits }

  -- other activations
  pub activations_sound : (as' : List Activation) → AllByRecursion (IsMadeBy c.processes) as' → IsSound d (with_activations as' c)
  activations_sound as' h = record {
    no_heap = k.no_heap;
    no_clocks = k.no_clocks;
    no_monitor = k.no_monitor;
    plain = k.plain;
    each_event = k.each_event;
    states = k.states;
    related = k.related;
    made = h;
    weights = k.weights;
  }

  -- other values of objects
  pub store_sound : (s : Store) → IsSound d (with_store s c)
  store_sound s = record {
    no_heap = k.no_heap;
    no_clocks = k.no_clocks;
    no_monitor = k.no_monitor;
    plain = k.plain;
    each_event = k.each_event;
    states = k.states;
    related = k.related;
    made = k.made;
    weights = k.weights;
  }

-- ---- those that become ready

-- a process that waits for a change or for children
abbrev pub may_wake : Status → Bool
may_wake (Waiting (Watches ws scope)) = true
may_wake (Waiting (Children all ps)) = true
may_wake s = false

-- it is parked, and does not wait for its start
wakes_parked : (s : Status) → may_wake s ≡ true → is_parked s ≡ true
wakes_parked (Waiting (Watches ws scope)) h = refl
wakes_parked (Waiting (Children all ps)) h = refl
wakes_parked s h = absurd (cc)

wakes_free : (s : Status) → may_wake s ≡ true → is_held s ≡ false
wakes_free (Waiting (Watches ws scope)) h = refl
wakes_free (Waiting (Children all ps)) h = refl
wakes_free s h = absurd (cc)

-- the process with a number waits for such a thing
abbrev pub wakes_at : Config → ProcessId → Bool
wakes_at c p = state_test (λ q. may_wake q.latest) (process_at c p)

module _ (d : Parts) where
  -- each of those for which a test holds that only such processes pass becomes ready
  pub woken_sound : {A : Type 0} (f : ProcessId → Bool) (n : ℕ) (xs : List A) (c : Config) → IsSound d c → ((p : ProcessId) → n ≤ p.0 → f p ≡ true → wakes_at c p ≡ true)
      → IsSound d (all_made_ready (filter f (numbered_from n xs)) c)
  woken_sound f n [] c k h = k
  woken_sound f n (x ∷ xs) c k h = by_test (f (record { 0 = n })) refl (λ e l i. woken_sound f (n + 1) xs e l i)
    where
      here : ProcessId
      here = record { 0 = n }

      later : (p : ProcessId) → n + 1 ≤ p.0 → p.0 ≢ n
      later p l e = absurd (omega (arith, l, e))

      by_test : (b : Bool) → f here ≡ b → ((e : Config) → IsSound d e → ((p : ProcessId) → n + 1 ≤ p.0 → f p ≡ true → wakes_at e p ≡ true) → IsSound d (all_made_ready (filter f (numbered_from (n + 1) xs)) e))
          → IsSound d (all_made_ready (cond b (here ∷ filter f (numbered_from (n + 1) xs)) (filter f (numbered_from (n + 1) xs))) c)
      by_test false e i = i c k (λ p l t. h p (omega (arith, l)) t)
      by_test true e i = by_state (process_at c here) refl (h here (omega arith) e)
        where
          by_state : (o : Option ProcessState) → process_at c here ≡ o → state_test (λ q. may_wake q.latest) o ≡ true → IsSound d (all_made_ready (filter f (numbered_from (n + 1) xs)) (made_ready here c))
          by_state None is t = absurd (cc)
          by_state (Some q) is t =
              i (made_ready here c) (ready_sound d c k here q is (wakes_parked q.latest t) (λ x. wakes_free q.latest t))
              (λ p l t. ap (state_test (λ q. may_wake q.latest)) (other_process here p c (later p l)) ∙ h p (omega (arith, l)) t)

  -- ---- those whom a change wakes

  -- who is woken waits for a change
  wakes_watching : (old new : Config) (s : Status) → wakes d Changed old new s ≡ true → may_wake s ≡ true
  wakes_watching old new (Waiting (Watches ws scope)) h = refl
  wakes_watching old new s h = absurd (cc)

  woken_watches : (old new : Config) (p : ProcessId) → state_test (is_woken d Changed old new) (process_at old p) ≡ true → wakes_at old p ≡ true
  woken_watches old new p = by_state (process_at old p)
    where
      by_state : (o : Option ProcessState) → state_test (is_woken d Changed old new) o ≡ true → state_test (λ q. may_wake q.latest) o ≡ true
      by_state None h = cc
      by_state (Some q) h = wakes_watching old new q.latest h

  -- a change leaves what is sound sound
  pub change_sound : (w : World) (c : Config) → IsSound d c → IsSound d (with_values w c) → IsSound d (changed_in d w c)
  change_sound w c k h =
      let new = with_values w c in
      woken_sound (λ p. state_test (is_woken d Changed c new) (process_at c p)) 0 c.processes new h (λ p l t. woken_watches c new p t)

-- ---- jobs

pub scheduled_sound : (d : Parts) (c : Config) → IsSound d c → (s : Side) (t : ℕ) (j : Job) → IsPlainJob j → IsSound d (update_scheduled s t j c)
scheduled_sound d c k s t j h = by_test (t == c.time)
  where
    by_test : (now : Bool) → IsSound d (cond now (record c { regions = job_in (updates_of s) j c.regions }) (scheduled t (updates_of s) (Work j) c))
    by_test true = record {
      no_heap = k.no_heap;
      no_clocks = k.no_clocks;
      no_monitor = k.no_monitor;
      plain = plain_job s j c.regions h k.plain;
      each_event = k.each_event;
      states = k.states;
      related = k.related;
      made = k.made;
      weights = λ w. let h = k.weights w in let e = job_weight w (updates_of s) j c.regions in omega (arith, h, e);
    }
    by_test false =
        let e : Event = record { time = t; region = updates_of s; due = Work j } in
        record {
          no_heap = k.no_heap;
          no_clocks = k.no_clocks;
          no_monitor = k.no_monitor;
          plain = k.plain;
          each_event = all_append IsPlainEvent c.future (e ∷ []) k.each_event (record { due = plain_update s j h }, tt);
          states = k.states;
          related = k.related;
          made = k.made;
          weights = λ w.
              let h = k.weights w in
              let n = pushed_weight (weight_of_event w) c.future e in
              omega (arith, h, n);
        }
