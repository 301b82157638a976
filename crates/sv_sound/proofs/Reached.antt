-- Each kind of step leaves a sound configuration, so all that are reached are sound.
use Rattle.std.proofs.Common.{ℕ, zero, suc, ◌≡◌, ◌≢◌, ◌+◌, ◌<◌, ◌≤◌, List, [], ◌∷◌, Option, None, Some, Bool, true, false, cond, refl, ap, subst, sym, ◌∙◌, arith, length, slice_get, slice_set, map}
use Rattle.std.specs.Prelude.{Result, Ok, Err, IsNone, IsSome, ◌&&◌, ◌||◌, not, is_some, ◌==◌, filter, remove, sum_by, unwrap_or, if◌then◌else◌}
use Rattle.std.specs.List.{AllByRecursion}
use Rattle.std.proofs.lemmas.Bool.Decides.{nat_tests}
use Rattle.std.proofs.lemmas.Grind.{common_steps}
use Rattle.std.proofs.lemmas.List.Filters.{sum_by-filter_both}
use Rattle.std.proofs.lemmas.List.Sums.{sum_by-cons}
use Rattle.sv_value.specs.declared.number.ProcessId.{ProcessId}
use Rattle.sv_value.specs.declared.place.FaultKind.{FaultKind}
use Rattle.sv_value.specs.declared.schedule.Side.{Side}
use Rattle.sv_value.specs.declared.schedule.Side.TheVariants.{Active, Reactive}
use Rattle.sv_value.specs.declared.schedule.Phase.TheVariants.{Open}
use Rattle.sv_value.specs.declared.schedule.Event.{Event}
use Rattle.sv_value.specs.declared.schedule.Job.{Job}
use Rattle.sv_value.specs.declared.schedule.Job.TheVariants.{Update, Clock}
use Rattle.sv_value.specs.declared.schedule.Update.{Update as Part}
use Rattle.sv_value.specs.Regions.{Regions, Set, with_set, standing, pickable, moved, due_in}
use Rattle.sv_flat.specs.declared.choices.Choices.{Choices}
use Rattle.sv_flat.specs.declared.process.Process.{Process}
use Rattle.sv_flat.specs.declared.design.Parts.{Parts}
use Rattle.sv_flat.specs.State.{Heap}
use Rattle.sv_flat.specs.Process.{ProcessState, Running, Ready, Cell, no_place}
use Rattle.sv_flat.specs.Effects.{write_occurred}
use Rattle.sv_flat.specs.Config.{Config, Strobe, starts, process_at, set_at, side_in, with_process, first_process, numbered_from, numbers_of, state_test, made_ready, all_made_ready, first_test, is_always_comb}
use Rattle.sv_flat.specs.Clocks.{preponed_from}
use Rattle.sv_flat.specs.Steps.{Kind, Begin_slot, Take_process, Run_statement, Take_job, Move_region, End_slot, Next_time, IsOpen, IsLegal, acting, front, after, effect, counted, numbers_used, side_after, taken_at, combs_started, is_starter, waiting_starters, statement_ran, ran_state, job_taken, job_done, updates_written, strobe_text, strobe_printed, monitor_printed, strobes_printed, closed, untriggered, came_due, moved_to, least_time}
use Rattle.sv_flat.specs.Directed.{directed, advanced, next_kind, after_kind}
use Rattle.sv_flat.specs.Laws.{IsReached}
use Rattle.sv_flat.proofs.Opens.{open_kind}
use Rattle.sv_built.specs.Built.{IsBuilt}
use Rattle.sv_sound.specs.Sound.{IsSound, IsPlainEvent, IsPlainSet, IsPlainJob, ArePlain, AreStates, is_pending, pending_count, is_parked, weight_of_event}
use Rattle.sv_sound.specs.After.{with_state, taken_short, taken_off, is_last}
use Rattle.sv_sound.proofs.Weights.{all_filter, there, removed_weight, due_weight, with_set_weight, moved_weight, parked_still, parked_done, all_still, one, one_self, once}
use Rattle.sv_sound.proofs.Plain.{plain_of, plain_with, same_jobs, plain_due, plain_moved}
use Rattle.sv_sound.proofs.States.{state_found, set_free, weaker, pending_same, pending_taken, pending_none, pending_counted, not_parked}
use Rattle.sv_sound.proofs.Related.{made_set}
use Rattle.sv_sound.proofs.Wakes.{write_is, other_process}
use Rattle.sv_sound.proofs.Changes.{known, plain_at, related_with, ready_sound, store_sound, change_sound}
use Rattle.sv_sound.proofs.Running.{running_known, runs_calm, state_sound}
use Rattle.sv_sound.proofs.EffectSound.{all_sound}
use Rattle.sv_sound.proofs.MicroPlain.{micro_plain}
use Rattle.sv_sound.proofs.Opening.{opening_sound}

-- ---- jobs

module _ (d : Parts) (b : IsBuilt d) where
  updates_sound : (us : List Part) (c : Config) → IsSound d c → IsSound d (updates_written d us c)
  updates_sound [] c k = k
  updates_sound (u ∷ us) c k =
      updates_sound us (write_occurred d no_place (Cell u.target.object u.target.element u.target.part) u.value c)
      (subst (IsSound d) (sym (write_is d b.no_clockings no_place (Cell u.target.object u.target.element u.target.part) tt u.value c)) (change_sound d _ c k (store_sound d c k _)))

  done_sound : (j : Job) → IsPlainJob j → (c : Config) → IsSound d c → IsSound d (job_done d j c)
  done_sound (Update us) h c k = updates_sound us c k
  done_sound (Clock n) h c k = absurd h

  pub begin_is : (c : Config) → effect d c Begin_slot ≡ record c { phase = Open; executed = Active; clocks = [] }
  begin_is c = ap (λ ks. record c { phase = Open; executed = Active; clocks = preponed_from ks c.clocks c.store }) b.no_clockings

  -- a job that is taken
  abbrev pub job_short : List Job → Config → Config
  job_short js c = record c { regions = with_set (acting c) (record (front c) { jobs = js }) c.regions }

  pub job_is : (c : Config) (j : Job) (js : List Job) → (front c).jobs ≡ j ∷ js → effect d c Take_job ≡ job_done d j (job_short js c)
  job_is c j js e = ap (λ js. job_taken d (acting c) js c) e

  -- ---- the end of a slot

  one_printed_sound : (x : Strobe) (t : Result (List ℕ) FaultKind) (c : Config) → IsSound d c → IsSound d (strobe_printed x t c)
  one_printed_sound x (Ok t) c k = k
  one_printed_sound x (Err e) c k = k

  all_printed_sound : (xs : List Strobe) (c : Config) → IsSound d c → IsSound d (strobes_printed d xs c)
  all_printed_sound [] c k = k
  all_printed_sound (x ∷ xs) c k = by_fault (is_some c.fault) (all_printed_sound xs (strobe_printed x (strobe_text d c x) c) (one_printed_sound x (strobe_text d c x) c k))
    where
      by_fault : (y : Bool) → IsSound d (strobes_printed d xs (strobe_printed x (strobe_text d c x) c)) → IsSound d (if y then c else strobes_printed d xs (strobe_printed x (strobe_text d c x) c))
      by_fault true i = k
      by_fault false i = i

  -- a slot that ended, or met a fault in one of its strobes
  abbrev pub ended_with : Config → Config
  ended_with e = if is_some e.fault then e else closed e

  -- there is no monitor
  pub end_is : (c : Config) → IsSound d c → effect d c End_slot ≡ ended_with (strobes_printed d c.strobes c)
  end_is c k = ap (λ m. ended_with (monitor_printed d m (strobes_printed d c.strobes c))) k.no_monitor

  closed_sound : (c : Config) → IsSound d c → IsSound d (closed c)
  closed_sound c k = record {
    no_heap = ap (λ (h : Heap). record h { events = map untriggered h.events }) k.no_heap;
    no_clocks = k.no_clocks;
    no_monitor = k.no_monitor;
    plain = k.plain;
    each_event = k.each_event;
    states = k.states;
    related = k.related;
    made = k.made;
    weights = λ w. let h = k.weights w in omega (arith, h);
  }

  ended_sound : (c : Config) → IsSound d c → IsSound d (ended_with c)
  ended_sound c k = by_fault (is_some c.fault)
    where
      by_fault : (y : Bool) → IsSound d (if y then c else closed c)
      by_fault true = k
      by_fault false = closed_sound c k

-- ---- what comes due

pub record Came (es : List Event) (r : Regions) : Type 0 where
  pub plain : ArePlain (came_due es r)
  pub weight : (w : ProcessId → ℕ) → sum_by w (standing (came_due es r)) ≤ sum_by w (standing r) + sum_by (weight_of_event w) es

pub all_came : (es : List Event) → AllByRecursion IsPlainEvent es → (r : Regions) → ArePlain r → Came es r
all_came [] h r k = record { plain = k; weight = λ w. omega arith }
all_came (e ∷ es) h r k =
    let i = all_came es h.1 (due_in e.region e.due r) (plain_due e.region e.due r h.0.due k) in
    record {
      plain = i.plain;
      weight = λ w.
          let a = i.weight w in
          let n = due_weight w e.region e.due r in
          let s = sum_by-cons (weight_of_event w) e es in
          omega (arith, a, n, s);
    }

-- ---- steps on regions and the future

module _ (d : Parts) (c : Config) (k : IsSound d c) where
  pub plain_front : IsPlainSet (front c)
  plain_front = plain_of (acting c) c.regions k.plain

  -- with other regions, in which no more stand
  regions_sound : (r : Regions) → ArePlain r → ((w : ProcessId → ℕ) → sum_by w (standing r) ≤ sum_by w (standing c.regions)) → IsSound d (record c { regions = r })
  regions_sound r h l = record {
    no_heap = k.no_heap;
    no_clocks = k.no_clocks;
    no_monitor = k.no_monitor;
    plain = h;
    each_event = k.each_event;
    states = k.states;
    related = k.related;
    made = k.made;
    weights = λ w. let h = k.weights w in let n = l w in omega (arith, h, n);
  }

  next_sound : (t : ℕ) → IsSound d (moved_to t c)
  next_sound t =
      let is_due : Event → Bool = λ e. e.time == t in
      let is_not_due : Event → Bool = λ e. not (e.time == t) in
      let due = filter is_due c.future in
      let came = all_came due (all_filter IsPlainEvent is_due c.future k.each_event) c.regions k.plain in
      record {
        no_heap = k.no_heap;
        no_clocks = k.no_clocks;
        no_monitor = k.no_monitor;
        plain = came.plain;
        each_event = all_filter IsPlainEvent is_not_due c.future k.each_event;
        states = k.states;
        related = k.related;
        made = k.made;
        weights = λ w.
            let h = k.weights w in
            let a = came.weight w in
            let both = sum_by-filter_both is_due is_not_due (λ e. refl) (weight_of_event w) c.future in
            omega (arith, h, a, both);
      }

  pub taken_weight : (w : ProcessId → ℕ) (place : ℕ) (p : ProcessId) → slice_get (front c).ready place ≡ Some p
      → sum_by w (standing (with_set (acting c) (record (front c) { ready = remove (front c).ready place }) c.regions)) + w p ≡ sum_by w (standing c.regions)
  taken_weight w place p e =
      let n = with_set_weight w (acting c) (record (front c) { ready = remove (front c).ready place }) c.regions in
      let r = removed_weight w (front c).ready place p e in
      omega (arith, n, r)

  pub ready_known : (place : ℕ) (p : ProcessId) → slice_get (front c).ready place ≡ Some p → p.0 < length c.processes
  ready_known place p e =
      let t = taken_weight (one p) place p e in
      known d c k p (let o = one_self p in omega (arith, t, o))

  -- who is ready is not parked
  pub ready_calm : (place : ℕ) (p : ProcessId) (q : ProcessState) → slice_get (front c).ready place ≡ Some p → process_at c p ≡ Some q → is_parked q.latest ≡ false
  ready_calm place p q e is = by_test (is_parked q.latest) refl
    where
      by_test : (y : Bool) → is_parked q.latest ≡ y → is_parked q.latest ≡ false
      by_test false z = z
      by_test true z =
          let h = k.weights (one p) in
          let t = taken_weight (one p) place p e in
          let n = parked_done (one p) c.processes p q (record q { latest = Running }) is z refl in
          let o = one_self p in
          let m = once p 0 c.processes in
          absurd (omega (arith, h, t, n, o, m))

  pub job_sound : (b : IsBuilt d) (j : Job) (js : List Job) → (front c).jobs ≡ j ∷ js → IsSound d (job_short d b js c)
  job_sound b j js e =
      let x : Set = record (front c) { jobs = js } in
      let all : AllByRecursion IsPlainJob (j ∷ js) = subst (AllByRecursion IsPlainJob) e plain_front.jobs in
      regions_sound (with_set (acting c) x c.regions)
      (plain_with (acting c) x c.regions (record { jobs = all.1; updates = plain_front.updates; clocks = plain_front.clocks }) k.plain)
      (λ w. let n = with_set_weight w (acting c) x c.regions in omega (arith, n))

  move_sound : IsSound d (record c { regions = with_set (acting c) (moved (front c)) c.regions })
  move_sound =
      regions_sound (with_set (acting c) (moved (front c)) c.regions) (plain_with (acting c) (moved (front c)) c.regions (plain_moved (front c) plain_front) k.plain)
      (λ w. let n = with_set_weight w (acting c) (moved (front c)) c.regions in let m = moved_weight w (front c) in omega (arith, n, m))

  begin_sound : IsSound d (record c { phase = Open; executed = Active; clocks = [] })
  begin_sound = record {
    no_heap = k.no_heap;
    no_clocks = refl;
    no_monitor = k.no_monitor;
    plain = k.plain;
    each_event = k.each_event;
    states = k.states;
    related = k.related;
    made = k.made;
    weights = k.weights;
  }

-- ---- a process is taken

pub take_is : (d : Parts) (c : Config) (place : ℕ) (p : ProcessId) → slice_get (front c).ready place ≡ Some p
    → effect d c (Take_process place) ≡ combs_started d (is_last d place p c) (taken_short place p c)
take_is d c place p e = ap (λ o. taken_at d (acting c) place o c) e

module _ (d : Parts) (c : Config) (k : IsSound d c) (place : ℕ) (p : ProcessId) (e : slice_get (front c).ready place ≡ Some p) (q : ProcessState) (is : process_at c p ≡ Some q) (n : IsNone c.running) where
  abbrev v : ProcessState
  v = record q { latest = Running; was_taken = true }

  pub calm : is_parked q.latest ≡ false
  calm = ready_calm d c k place p q e is

  pub now_is : taken_short place p c ≡ record (taken_off place c) { running = Some p; processes = slice_set c.processes p.0 v }
  now_is =
      let f : ProcessState → ProcessState = λ q. record q { latest = Running; was_taken = true } in
      ap (λ o. record (taken_off place c) { running = Some p; processes = set_at o f p c.processes }) is

  -- the states, as far as before a starter was to come
  pub states_then : AreStates (is_pending d.processes c.processes) d.processes (slice_set c.processes p.0 v)
  states_then =
      set_free (is_pending d.processes c.processes) d.processes c.processes p.0 q k.states is (λ x. not_parked q.latest calm) v refl refl refl (plain_at d c k p q is).rest tt refl

  states_now : AreStates (is_pending d.processes (slice_set c.processes p.0 v)) d.processes (slice_set c.processes p.0 v)
  states_now =
      weaker (is_pending d.processes c.processes) (is_pending d.processes (slice_set c.processes p.0 v)) (pending_taken d.processes c.processes p.0 v refl) d.processes (slice_set c.processes p.0 v) states_then

  pub now_sound : IsSound d (record (taken_off place c) { running = Some p; processes = slice_set c.processes p.0 v })
  now_sound = record {
    no_heap = k.no_heap;
    no_clocks = k.no_clocks;
    no_monitor = k.no_monitor;
    plain = plain_with (acting c) (record (front c) { ready = remove (front c).ready place }) c.regions (same_jobs (front c) _ refl refl refl (plain_front d c k)) k.plain;
    each_event = k.each_event;
    states = states_now;
    related = related_with d c k p q is v refl refl (λ e. let z : false ≡ true = e in absurd (cc)) refl;
    made = made_set c.processes p.0 v c.activations k.made;
    weights = λ w.
        let h = k.weights w in
        let t = taken_weight d c k w place p e in
        let s = parked_still w c.processes p q v is (sym calm) in
        let a = all_still w c.processes p.0 v in
        omega (arith, h, t, s, a);
  }

-- ---- the `always_comb` start

module _ (d : Parts) where
  start_sound : (c : Config) → IsSound d c → is_pending d.processes c.processes ≡ false → (p : ProcessId) (q : ProcessState) → process_at c p ≡ Some q → is_parked q.latest ≡ true
      → IsSound d (made_ready p c)
  start_sound c k none p q is parked = ready_sound d c k p q is parked (λ x. let z : true ≡ false = sym x ∙ none in absurd (cc))

  still_none : (c : Config) (p : ProcessId) → is_pending d.processes c.processes ≡ false → is_pending d.processes (made_ready p c).processes ≡ false
  still_none c p h = by_state (process_at c p) refl
    where
      by_state : (o : Option ProcessState) → process_at c p ≡ o → is_pending d.processes (set_at o (λ s. record s { latest = Ready }) p c.processes) ≡ false
      by_state None e = h
      by_state (Some q) e = pending_same d.processes c.processes p.0 q (record q { latest = Ready }) e refl ∙ h

  parked_at : Config → ProcessId → Bool
  parked_at c p = state_test (λ q. is_parked q.latest) (process_at c p)

  all_start : {A : Type 0} (f : ProcessId → Bool) (n : ℕ) (xs : List A) (c : Config) → IsSound d c → is_pending d.processes c.processes ≡ false
      → ((p : ProcessId) → n ≤ p.0 → f p ≡ true → state_test (λ q. is_parked q.latest) (process_at c p) ≡ true) → IsSound d (all_made_ready (filter f (numbered_from n xs)) c)
  all_start f n [] c k y h = k
  all_start f n (x ∷ xs) c k y h = by_test (f (record { 0 = n })) refl (λ e l z i. all_start f (n + 1) xs e l z i)
    where
      here : ProcessId
      here = record { 0 = n }

      later : (p : ProcessId) → n + 1 ≤ p.0 → p.0 ≢ n
      later p l e = absurd (omega (arith, l, e))

      by_test : (b : Bool) → f here ≡ b
          → ((e : Config) → IsSound d e → is_pending d.processes e.processes ≡ false → ((p : ProcessId) → n + 1 ≤ p.0 → f p ≡ true → state_test (λ q. is_parked q.latest) (process_at e p) ≡ true)
          → IsSound d (all_made_ready (filter f (numbered_from (n + 1) xs)) e))
          → IsSound d (all_made_ready (cond b (here ∷ filter f (numbered_from (n + 1) xs)) (filter f (numbered_from (n + 1) xs))) c)
      by_test false e i = i c k y (λ p l t. h p (omega (arith, l)) t)
      by_test true e i = by_state (process_at c here) refl (h here (omega arith) e)
        where
          by_state : (o : Option ProcessState) → process_at c here ≡ o → state_test (λ q. is_parked q.latest) o ≡ true → IsSound d (all_made_ready (filter f (numbered_from (n + 1) xs)) (made_ready here c))
          by_state None is t = absurd (cc)
          by_state (Some q) is t =
              i (made_ready here c) (start_sound c k y here q is t) (still_none c here y)
              (λ p l t. ap (state_test (λ q. is_parked q.latest)) (other_process here p c (later p l)) ∙ h p (omega (arith, l)) t)

  -- the starters that are to come, as the definition counts them
  pub waiting_counted : (x : Bool) (c : Config) → AreStates x d.processes c.processes → length (waiting_starters d c) ≡ pending_count d.processes c.processes
  waiting_counted x c h =
      pending_counted x _ 0 d.processes c.processes h (record {
        at = λ i f q a b.
            let z : 0 + i ≡ i = omega arith in
            ap (λ m. state_test (λ q. first_test starts (slice_get d.processes m) && not q.was_taken) (slice_get c.processes m)) z
            ∙ ap (λ o. state_test (λ q. first_test starts (slice_get d.processes i) && not q.was_taken) o) b
            ∙ ap (λ o. first_test starts o && not q.was_taken) a;
        beyond = λ i a. none_starts (record { 0 = 0 + i }) (let z : 0 + i ≡ i = omega arith in ap (slice_get d.processes) z ∙ a) (process_at c (record { 0 = 0 + i }));
      })
    where
      none_starts : (p : ProcessId) → first_process d p ≡ None → (o : Option ProcessState) → state_test (λ q. first_test starts (first_process d p) && not q.was_taken) o ≡ false
      none_starts p a None = refl
      none_starts p a (Some q) = ap (λ o. first_test starts o && not q.was_taken) a

  and_left : (a b : Bool) → (a && b) ≡ true → a ≡ true
  and_left true b h = refl
  and_left false b h = absurd (cc)

  and_right : (a b : Bool) → (a && b) ≡ true → b ≡ true
  and_right true b h = h
  and_right false b h = absurd (cc)

  -- a starter that was not taken is to come
  pub starter_pends : (x : Bool) (fs : List Process) (qs : List ProcessState) (i : ℕ) (f : Process) (q : ProcessState) → AreStates x fs qs → slice_get fs i ≡ Some f → slice_get qs i ≡ Some q
      → (starts f && not q.was_taken) ≡ true → is_pending fs qs ≡ true
  starter_pends x [] qs i f q h a b t = absurd (cc)
  starter_pends x (g ∷ fs) (r ∷ qs) zero f q h a b t =
      let e : (starts g && not r.was_taken) ≡ true = ap (λ o. first_test starts o && not r.was_taken) a ∙ ap (λ o. starts f && not (taken_in o)) b ∙ t in
      ap (λ y. y || is_pending fs qs) e
    where
      taken_in : Option ProcessState → Bool
      taken_in None = false
      taken_in (Some q) = q.was_taken
  starter_pends x (g ∷ fs) (r ∷ qs) (suc i) f q h a b t = over (starts g && not r.was_taken) (starter_pends x fs qs i f q h.1 a b t)
    where
      over : (y : Bool) → is_pending fs qs ≡ true → (y || is_pending fs qs) ≡ true
      over true e = refl
      over false e = e
  starter_pends x (g ∷ fs) [] i f q h a b t = absurd h

  -- who is held waits for its start
  held_parked : (c : Config) → AreStates true d.processes c.processes → (p : ProcessId)
      → state_test (λ q. first_test (λ f. is_always_comb f.kind) (first_process d p) && not q.was_taken) (process_at c p) ≡ true
      → state_test (λ q. is_parked q.latest) (process_at c p) ≡ true
  held_parked c h p t = by_state (process_at c p) refl t
    where
      by_state : (o : Option ProcessState) → process_at c p ≡ o → state_test (λ q. first_test (λ f. is_always_comb f.kind) (first_process d p) && not q.was_taken) o ≡ true → state_test (λ q. is_parked q.latest) o ≡ true
      by_state None e t = absurd (cc)
      by_state (Some q) e t = by_first (first_process d p) refl (and_left _ (not q.was_taken) t)
        where
          by_first : (o : Option Process) → first_process d p ≡ o → first_test (λ f. is_always_comb f.kind) o ≡ true → is_parked q.latest ≡ true
          by_first None a g = absurd (cc)
          by_first (Some f) a g = ap is_parked ((state_found true d.processes c.processes p.0 f q h a e).held refl g)

-- ---- each kind of step

module _ (d : Parts) (b : IsBuilt d) (c : Config) (k : IsSound d c) where
  take_sound : (place : ℕ) (p : ProcessId) → slice_get (front c).ready place ≡ Some p → IsNone c.running → IsSound d (combs_started d (is_last d place p c) (taken_short place p c))
  take_sound place p e n = by_last (is_last d place p c) refl
    where
      at : (q : ProcessState) × (process_at c p ≡ Some q)
      at = there c.processes p.0 (ready_known d c k place p e)

      now : Config
      now = record (taken_off place c) { running = Some p; processes = slice_set c.processes p.0 (record at.0 { latest = Running; was_taken = true }) }

      sound : IsSound d (taken_short place p c)
      sound = subst (IsSound d) (sym (now_is d c k place p e at.0 at.1 n)) (now_sound d c k place p e at.0 at.1 n)

      by_last : (y : Bool) → is_last d place p c ≡ y → IsSound d (combs_started d y (taken_short place p c))
      by_last false l = sound
      by_last true l = by_first (first_process d p) refl (and_left d _ (length (waiting_starters d (taken_short place p c)) == 0) l)
        where
          starter_of : (f : Process) (q : ProcessState) → first_process d p ≡ Some f → process_at c p ≡ Some q → is_starter d (taken_off place c) p ≡ true → (starts f && not q.was_taken) ≡ true
          starter_of f q x y h = grind (arith, common_steps)

          no_starter : first_process d p ≡ None → is_starter d (taken_off place c) p ≡ true → ⊥
          no_starter x h = absurd (let z : true ≡ false = sym (and_left d _ _ h) ∙ ap (first_test starts) x in cc)

          by_first : (o : Option Process) → first_process d p ≡ o → is_starter d (taken_off place c) p ≡ true → IsSound d (combs_started d true (taken_short place p c))
          by_first None x first = absurd (no_starter x first)
          by_first (Some f) x first =
              let none : (length (waiting_starters d (taken_short place p c)) == 0) ≡ true = and_right d (is_starter d (taken_off place c) p) _ l in
              let starter : (starts f && not at.0.was_taken) ≡ true = starter_of f at.0 x at.1 first in
              let pends : is_pending d.processes c.processes ≡ true = starter_pends d (is_pending d.processes c.processes) d.processes c.processes p.0 f at.0 k.states x at.1 starter in
              let then' : AreStates true d.processes (taken_short place p c).processes =
              subst (λ (x : Config). AreStates true d.processes x.processes) (sym (now_is d c k place p e at.0 at.1 n))
              (subst (λ y. AreStates y d.processes (slice_set c.processes p.0 (record at.0 { latest = Running; was_taken = true }))) pends (states_then d c k place p e at.0 at.1 n)) in
              let zero_left : length (waiting_starters d (taken_short place p c)) ≡ 0 = grind (arith, nat_tests) in
              let none_now : is_pending d.processes (taken_short place p c).processes ≡ false =
              pending_none d.processes (taken_short place p c).processes (sym (waiting_counted d true (taken_short place p c) then') ∙ zero_left) in
              all_start d _ 0 (taken_short place p c).processes (taken_short place p c) sound none_now (λ q m t. held_parked d (taken_short place p c) then' q t)

  first_job : 0 < length (front c).jobs → (j : Job) × (js : List Job) × ((front c).jobs ≡ j ∷ js)
  first_job h = by_list (front c).jobs refl h
    where
      by_list : (js : List Job) → (front c).jobs ≡ js → 0 < length js → (j : Job) × (js' : List Job) × ((front c).jobs ≡ j ∷ js')
      by_list [] e h = absurd (omega (arith, h))
      by_list (j ∷ js) e h = (j, js, e)

  pub statement_sound : IsNone c.fault → (p : ProcessId) → c.running ≡ Some p → IsSound d (statement_ran d (Some p) c)
  statement_sound f p r =
      let at = there c.processes p.0 (running_known d c k p r) in
      let q = at.0 in
      let v : ProcessState = record q { handed = None } in
      let plain = (plain_at d c k p q at.1).rest in
      let here : IsSound d (with_state p v c) = state_sound d c k p r q at.1 v refl refl refl refl plain (runs_calm d c k p r q at.1) (λ e. e) in
      subst (λ o. IsSound d (ran_state d p o c)) (sym at.1)
      (subst (λ o. IsSound d (Rattle.sv_flat.specs.Effects.all_occurred d (unwrap_or (Rattle.sv_flat.specs.Micro.place_of_step q.rest) no_place) p (Rattle.sv_flat.specs.Micro.micro d (Rattle.sv_flat.specs.Config.seen d c) p q) (record c { processes = set_at o (λ r. record r { handed = None }) p c.processes }))) (sym at.1)
      (all_sound d b _ p _ (micro_plain d b (Rattle.sv_flat.specs.Config.seen d c) p q plain) (with_state p v c) here))

  effect_sound : (m : Kind) → IsOpen c m → IsSound d (effect d c m)
  effect_sound Begin_slot may = subst (IsSound d) (sym (begin_is d b c)) (begin_sound d c k)
  effect_sound (Take_process place) may =
      let at = there (front c).ready place may.2 in
      subst (IsSound d) (sym (take_is d c place at.0 at.1)) (take_sound place at.0 at.1 may.1)
  effect_sound Run_statement may = by_running c.running refl may.1
    where
      by_running : (o : Option ProcessId) → c.running ≡ o → IsSome o → IsSound d (statement_ran d o c)
      by_running None e h = absurd (cc)
      by_running (Some p) e h = statement_sound may.0.0 p e
  effect_sound Take_job may =
      let f = first_job may.2 in
      let all : AllByRecursion IsPlainJob (f.0 ∷ f.1) = subst (AllByRecursion IsPlainJob) f.2 (plain_front d c k).jobs in
      subst (IsSound d) (sym (job_is d b c f.0 f.1 f.2)) (done_sound d b f.0 all.0 (job_short d b f.1 c) (job_sound d c k b f.0 f.1 f.2))
  effect_sound Move_region may = move_sound d c k
  effect_sound End_slot may = subst (IsSound d) (sym (end_is d b c k)) (ended_sound d b (strobes_printed d c.strobes c) (all_printed_sound d b c.strobes c k))
  effect_sound Next_time may = next_sound d c k (unwrap_or (least_time c.future) c.time)

counted_sound : (d : Parts) (s : Side) (n : ℕ) (c : Config) → IsSound d c → IsSound d (counted s n c)
counted_sound d Active n c k = k
counted_sound d Reactive n c k = k

pub kind_sound : (d : Parts) → IsBuilt d → (c : Config) → IsSound d c → (m : Kind) → IsOpen c m → IsSound d (after d c m)
kind_sound d b c k m may = counted_sound d (side_after c m) (numbers_used m (pickable (front c))) (effect d c m) (effect_sound d b c k m may)

-- ---- runs

module _ (d : Parts) (b : IsBuilt d) where
  pub advanced_sound : (a r : Choices) (c : Config) → IsSound d c → IsSound d (advanced d a r c)
  advanced_sound a r c k = by_kind (next_kind a r c) (open_kind a r c)
    where
      by_kind : (o : Option Kind) → ((k : Kind) → o ≡ Some k → IsOpen c k) → IsSound d (after_kind d c o)
      by_kind None may = k
      by_kind (Some m) may = kind_sound d b c k m (may m refl)

  pub directed_sound : (a r : Choices) (n : ℕ) → IsSound d (directed d a r n)
  directed_sound a r zero = opening_sound d b
  directed_sound a r (suc n) = advanced_sound a r (directed d a r n) (directed_sound a r n)

  -- and of each legal run
  pub legal_sound : (c : Config) (run : List Config) → IsLegal d (c ∷ run) → IsSound d c
  legal_sound c [] l = subst (IsSound d) (sym l) (opening_sound d b)
  legal_sound c (e ∷ run) l = subst (IsSound d) (sym l.0.2) (kind_sound d b e (legal_sound e run l.1) l.0.0 l.0.1)

  pub reached_sound : (c : Config) → IsReached d c → IsSound d c
  reached_sound c h = legal_sound c h.0 h.1
