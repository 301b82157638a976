-- A sound configuration stays sound where an effect of a built design occurs.
use Rattle.std.proofs.Common.{ℕ, ◌≡◌, ◌+◌, ◌<◌, List, [], ◌∷◌, Option, None, Some, Bool, true, false, cond, refl, ap, subst, sym, ◌∙◌, arith, length, slice_set}
use Rattle.std.specs.Prelude.{◌^◌, nat_lt, not, is_some, ◌==◌, ◌&&◌, if◌then◌else◌}
use Rattle.std.specs.List.{AllByRecursion}
use Rattle.std.proofs.lemmas.Bool.Decides.{nat_tests}
use Rattle.sv_value.specs.declared.number.ProcessId.{ProcessId}
use Rattle.sv_value.specs.declared.place.Place.{Place}
use Rattle.sv_value.specs.declared.place.FaultKind.TheVariants as fault
use Rattle.sv_value.specs.declared.val.Val.{Val}
use Rattle.sv_value.specs.declared.schedule.Range.{Range}
use Rattle.sv_value.specs.declared.schedule.Event.{Event}
use Rattle.sv_value.specs.declared.schedule.Due.TheVariants.{Resume}
use Rattle.sv_value.specs.Regions.{front_of, idle_of}
use Rattle.sv_flat.specs.declared.object.DataType.{DataType}
use Rattle.sv_flat.specs.declared.process.Process.{Process}
use Rattle.sv_flat.specs.declared.process.ProcessKind.{ProcessKind}
use Rattle.sv_flat.specs.declared.process.ProcessKind.TheVariants as kind
use Rattle.sv_flat.specs.declared.process.Watch.{Watch}
use Rattle.sv_flat.specs.declared.stmt.PrintKind.TheVariants as print
use Rattle.sv_flat.specs.declared.design.Parts.{Parts}
use Rattle.sv_flat.specs.State.{Store, Name}
use Rattle.sv_flat.specs.Process
use Rattle.sv_flat.specs.Process.{ProcessState, Status, Ready, Waiting, Moment, Turn_in_slot, Watches, Start, Todo, Spot, Cell, Variable_of, Effect, Remain, Enter, Write, Suspend, Resume_at, Update_at, Spawn, Await_children, End_descendants, Print_text, Keep_print, Finish_run, End, Fail, body_in, Spawn}
use Rattle.sv_flat.specs.Config.{Config, process_at, first_process, met_fault}
use Rattle.sv_flat.specs.Effects.{occurred, all_occurred, applied}
use Rattle.sv_flat.specs.Effects.Ends.{is_running, descendants}
use Rattle.sv_flat.specs.Effects.Writes.{variable_over}
use Rattle.sv_built.specs.Built.{IsBuiltProcess, IsBuiltWatch, IsBuilt}
use Rattle.sv_sound.specs.Sound.{IsSound, IsPlainTodo, IsPlainEvent, IsPlainEffect, weight_of_event, weight_of_running, IsMadeBy}
use Rattle.sv_sound.specs.After.{with_state, waiting_until, turned, watching, changed_to, store_after, with_activations, entered_by, entering}
use Rattle.sv_sound.proofs.Weights.{all_append, all_at, there, pushed_weight, ready_weight}
use Rattle.sv_sound.proofs.Plain.{body_plain, plain_ready, plain_later}
use Rattle.sv_sound.proofs.States.{not_parked}
use Rattle.sv_sound.proofs.Related.{no_children, made_over, length_set}
use Rattle.sv_sound.proofs.Changes.{found_at, forked_at, activations_sound, store_sound, change_sound, scheduled_sound}
use Rattle.sv_sound.proofs.Running.{running_known, runs_calm, rest_plain, state_sound, remain_sound, parks_sound}
use Rattle.sv_sound.proofs.Ended.{ended_sound, join_sound}
use Rattle.sv_sound.proofs.Descendants.{all_may_end, all_ended_sound}
use Rattle.sv_sound.proofs.Forks.{spawn_sound, await_sound}
use Rattle.sv_sound.proofs.Occurs.{fail_is, finish_is, now_is, effect_write_is, variable_write_is, enter_is, remain_is, print_is, strobe_is, resume_is, turn_is, watch_is, update_is, end_initial, end_always, end_always_ff, end_always_comb, end_assign, end_port, end_forked, spawn_is, await_is, disable_is, quiet_is}

-- ---- the process that runs

module _ (d : Parts) (c : Config) (k : IsSound d c) (p : ProcessId) (r : c.running ≡ Some p) where
  module _ (q : ProcessState) (is : process_at c p ≡ Some q) where
    resume_sound : (t : ℕ) → IsSound d (waiting_until p q t c)
    resume_sound t =
        let v : ProcessState = record q { latest = Waiting Moment } in
        let s : IsSound d (with_state p v c) = state_sound d c k p r q is v refl refl refl refl (rest_plain d c k p r q is) refl (λ e. absurd (cc)) in
        let e : Event = record { time = t; region = front_of q.side; due = Resume p } in
        record {
          no_heap = k.no_heap;
          no_clocks = k.no_clocks;
          no_monitor = k.no_monitor;
          plain = k.plain;
          each_event = all_append IsPlainEvent c.future (e ∷ []) k.each_event (record { due = plain_later q.side p }, tt);
          states = s.states;
          related = s.related;
          made = s.made;
          weights = λ w.
              let h = s.weights w in
              let o : weight_of_running w c.running ≡ w p = ap (weight_of_running w) r in
              let n = pushed_weight (weight_of_event w) c.future e in
              omega (arith, h, o, n);
        }

    turn_sound : IsSound d (turned p q c)
    turn_sound =
        let v : ProcessState = record q { latest = Waiting Turn_in_slot } in
        let s : IsSound d (with_state p v c) = state_sound d c k p r q is v refl refl refl refl (rest_plain d c k p r q is) refl (λ e. absurd (cc)) in
        record {
          no_heap = k.no_heap;
          no_clocks = k.no_clocks;
          no_monitor = k.no_monitor;
          plain = plain_ready (idle_of q.side) p c.regions k.plain;
          each_event = k.each_event;
          states = s.states;
          related = s.related;
          made = s.made;
          weights = λ w.
              let h = s.weights w in
              let o : weight_of_running w c.running ≡ w p = ap (weight_of_running w) r in
              let n = ready_weight w (idle_of q.side) p c.regions in
              omega (arith, h, o, n);
        }

    -- it waits for a change, with this left to run
    watch_sound : (ws : List Watch) → AllByRecursion IsBuiltWatch ws → (scope : Option Name) (rest : List Todo) → AllByRecursion IsPlainTodo rest
        → IsSound d (watching p (record q { rest = rest }) ws scope c)
    watch_sound ws b scope rest h =
        parks_sound d c k p r q is (record q { latest = Waiting (Watches ws scope); rest = rest }) refl refl refl refl h b refl refl refl (no_children c.processes p (Waiting (Watches ws scope)) refl)

    -- an activation more, with the first values of its variables
    enter_sound : (at : Place) (ts : List DataType) (around : Option Name) → IsSound d (entering at p q ts around c)
    enter_sound at ts around = by_room (nat_lt (length c.activations) (2 ^ 24))
      where
        by_room : (y : Bool) → IsSound d (if y then entered_by p q ts around c else met_fault fault.Activations at c)
        by_room true =
            let v : ProcessState = record q { made = q.made + 1 } in
            let e : IsSound d (with_state p v c) = state_sound d c k p r q is v refl refl refl refl (rest_plain d c k p r q is) (runs_calm d c k p r q is) (λ e. e) in
            let known : p.0 < length (slice_set c.processes p.0 v) = (let l = length_set c.processes p.0 v in let m = running_known d c k p r in omega (arith, l, m)) in
            activations_sound d (with_state p v c) e _ (all_append (IsMadeBy (slice_set c.processes p.0 v)) c.activations _ e.made (known, tt))
        by_room false = k

    end_sound : IsBuilt d → (at : Place) → IsSound d (occurred d at p End c)
    end_sound b at = by_first (first_process d p) refl
      where
        by_kind : (f : Process) → first_process d p ≡ Some f → IsBuiltProcess f → AllByRecursion IsPlainTodo (body_in d f.body None) → (m : ProcessKind) → f.kind ≡ m → IsSound d (occurred d at p End c)
        by_kind f e h body kind.Initial m =
            let none : q.parent ≡ None = (found_at d c k p f q e is).parent in
            subst (IsSound d) (sym (end_initial d b.no_clockings at p c q is f e m h.of_module))
            (ended_sound d c k p q is (λ x. not_parked q.latest (runs_calm d c k p r q is)) (λ a s g. absurd (let z : None ≡ Some a = sym none ∙ g in cc)))
        by_kind f e h body kind.Always m = subst (IsSound d) (sym (end_always d b.no_clockings at p c q is f e m)) (remain_sound d c k p r q is (body_in d f.body None) body)
        by_kind f e h body kind.AlwaysFf m = subst (IsSound d) (sym (end_always_ff d b.no_clockings at p c q is f e m)) (remain_sound d c k p r q is (body_in d f.body None) body)
        by_kind f e h body kind.AlwaysComb m = subst (IsSound d) (sym (end_always_comb d b.no_clockings at p c q is f e m)) (watch_sound f.watched h.watched None (body_in d f.body None) body)
        by_kind f e h body kind.Assign m = subst (IsSound d) (sym (end_assign d b.no_clockings at p c q is f e m)) (watch_sound f.watched h.watched None (body_in d f.body None) body)
        by_kind f e h body kind.Port m = subst (IsSound d) (sym (end_port d b.no_clockings at p c q is f e m)) (watch_sound f.watched h.watched None (body_in d f.body None) body)

        by_first : (o : Option Process) → first_process d p ≡ o → IsSound d (occurred d at p End c)
        by_first None e = subst (IsSound d) (sym (end_forked d b.no_clockings at p c e)) (join_sound d c k p r q is (forked_at d c k p q e is).forked)
        by_first (Some f) e = by_kind f e (all_at IsBuiltProcess d.processes p.0 f e b.each_process) (body_plain d b f.body None) f.kind refl

    -- other values of objects, with those whom the change wakes
    store_changes : (s : Store) → IsSound d (changed_to d s c)
    store_changes s = change_sound d (record c.world { store = s }) c k (store_sound d c k s)

    -- a variable of an activation
    variable_sound : (n : Name) (i : ℕ) (o : Option Range) (x : Val) → IsSound d (with_activations (variable_over n i o x c.activations) c)
    variable_sound n i o x = activations_sound d c k (variable_over n i o x c.activations) (made_over c.processes n i o x c.activations k.made)

    -- each effect
    pub effect_sound : IsBuilt d → (at : Place) (e : Effect) → IsPlainEffect e → IsSound d (occurred d at p e c)
    effect_sound b at (Remain rest) h = subst (IsSound d) (sym (remain_is d b.no_clockings at p c q is rest)) (remain_sound d c k p r q is rest h)
    effect_sound b at (Enter ts around) h = subst (IsSound d) (sym (enter_is d b.no_clockings at p c q is ts h around)) (enter_sound at ts around)
    effect_sound b at (Write (Cell o i r) x) h = subst (IsSound d) (sym (effect_write_is d b.no_clockings at p c (Cell o i r) tt x)) (store_changes (store_after (Cell o i r) x c.store))
    effect_sound b at (Write Process.Nowhere x) h = subst (IsSound d) (sym (effect_write_is d b.no_clockings at p c Process.Nowhere tt x)) (store_changes c.store)
    effect_sound b at (Write (Variable_of n i r) x) h =
        subst (IsSound d) (sym (variable_write_is d b.no_clockings at p c n i r x)) (change_sound d (record c.world { activations = variable_over n i r x c.activations }) c k (variable_sound n i r x))
    effect_sound b at (Suspend Turn_in_slot) h = subst (IsSound d) (sym (turn_is d b.no_clockings at p c q is)) turn_sound
    effect_sound b at (Suspend (Watches ws scope)) h =
        subst (IsSound d) (sym (watch_is d b.no_clockings at p c q is ws scope)) (watch_sound ws h scope q.rest (rest_plain d c k p r q is))
    effect_sound b at (Resume_at t) h = subst (IsSound d) (sym (resume_is d b.no_clockings at p c q is t)) (resume_sound t)
    effect_sound b at (Update_at t j) h = subst (IsSound d) (sym (update_is d b.no_clockings at p c q is t j)) (scheduled_sound d c k q.side t j h)
    effect_sound b at (Spawn rs scope m) h = subst (IsSound d) (sym (spawn_is d b.no_clockings at p c q is rs scope m)) (spawn_sound d b at c k p r q is rs scope m)
    effect_sound b at Await_children h = subst (IsSound d) (sym (await_is d b.no_clockings at p c)) (await_sound d c k p r q is)
    effect_sound b at End_descendants h = subst (IsSound d) (sym (disable_is d b.no_clockings at p c)) (all_ended_sound d p (descendants c p) c (all_may_end d c k p r))
    effect_sound b at (Print_text t) h = subst (IsSound d) (sym (print_is d b.no_clockings at p c q is t)) k
    effect_sound b at (Keep_print print.Now ps es) h = subst (IsSound d) (sym (now_is d b.no_clockings at p c ps es)) k
    effect_sound b at (Keep_print print.Strobe ps es) h = subst (IsSound d) (sym (strobe_is d b.no_clockings at p c q is ps es)) k
    effect_sound b at Finish_run h = subst (IsSound d) (sym (finish_is d b.no_clockings at p c)) k
    effect_sound b at End h = end_sound b at
    effect_sound b at (Fail m) h = subst (IsSound d) (sym (fail_is d b.no_clockings at p c m)) k
    effect_sound b at (Keep_print print.Monitor ps es) h = absurd h
    effect_sound b at e h = absurd h

    -- and without its wakes
    pub applied_sound : IsBuilt d → (at : Place) (e : Effect) → IsPlainEffect e → IsSound d (applied d at p e c)
    applied_sound b at (Write (Cell o i r) x) h = store_sound d c k (store_after (Cell o i r) x c.store)
    applied_sound b at (Write Process.Nowhere x) h = k
    applied_sound b at (Write (Variable_of n i r) x) h = variable_sound n i r x
    applied_sound b at (Write s x) h = absurd h
    applied_sound b at (Process.Contain g q) h = absurd h
    applied_sound b at (Process.Serve g m) h = absurd h
    applied_sound b at (Process.Trigger_event g) h = absurd h
    applied_sound b at e h = subst (IsSound d) (quiet_is d b.no_clockings at p c e refl refl) (effect_sound b at e h)

-- ---- the effects of a step, one after another

pub all_sound : (d : Parts) → IsBuilt d → (at : Place) (p : ProcessId) (es : List Effect) → AllByRecursion IsPlainEffect es → (c : Config) → IsSound d c → IsSound d (all_occurred d at p es c)
all_sound d b at p [] h c k = k
all_sound d b at p (e ∷ es) h c k = by_running c.running refl (λ x i. all_sound d b at p es h.1 x i)
  where
    by_test : (o : Option ProcessId) (y : Bool) → IsSound d (all_occurred d at p es (occurred d at p e c)) → IsSound d (cond (is_running o p && y) (all_occurred d at p es (occurred d at p e c)) c)
    by_test o y i = by_bool (is_running o p && y)
      where
        by_bool : (z : Bool) → IsSound d (cond z (all_occurred d at p es (occurred d at p e c)) c)
        by_bool true = i
        by_bool false = k

    by_running : (o : Option ProcessId) → c.running ≡ o → ((x : Config) → IsSound d x → IsSound d (all_occurred d at p es x)) → IsSound d (all_occurred d at p (e ∷ es) c)
    by_running None r i = subst (λ o. IsSound d (cond (is_running o p && not (is_some c.fault)) (all_occurred d at p es (occurred d at p e c)) c)) (sym r) k
    by_running (Some q) r i = by_same (q.0 == p.0) refl
      where
        by_same : (y : Bool) → (q.0 == p.0) ≡ y → IsSound d (all_occurred d at p (e ∷ es) c)
        by_same false n = subst (λ o. IsSound d (cond (is_running o p && not (is_some c.fault)) (all_occurred d at p es (occurred d at p e c)) c)) (sym r)
            (subst (λ y. IsSound d (cond (y && not (is_some c.fault)) (all_occurred d at p es (occurred d at p e c)) c)) (sym n) k)
        by_same true n =
            let same : q.0 ≡ p.0 = grind (arith, nat_tests) in
            let here : c.running ≡ Some p = r ∙ (λ i. Some (record { 0 = same i })) in
            let at' = there c.processes p.0 (running_known d c k p here) in
            by_test c.running (not (is_some c.fault)) (i (occurred d at p e c) (effect_sound d c k p here at'.0 at'.1 b at e h.0))
