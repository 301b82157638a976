-- The process that runs stands nowhere else, and may come into another state.
use Rattle.std.proofs.Common.{◌≡◌, ◌+◌, ◌≤◌, ◌<◌, List, [], None, Some, Bool, true, false, refl, ap, sym, ◌∙◌, arith, length, slice_set}
use Rattle.std.specs.Prelude.{filter, sum_by, if◌then◌else◌}
use Rattle.std.specs.List.{AllByRecursion}
use Rattle.std.proofs.lemmas.Bool.{eq-eqb}
use Rattle.sv_value.specs.declared.number.ProcessId.{ProcessId}
use Rattle.sv_value.specs.Regions.{standing, regions_without}
use Rattle.sv_flat.specs.declared.design.Parts.{Parts}
use Rattle.sv_flat.specs.Process
use Rattle.sv_flat.specs.Process.{ProcessState, Status, Ready, Waiting, Moment, Turn_in_slot, Watches, Start, Todo, Spot, Cell, Variable_of, Effect, Remain, Enter, Write, Suspend, Resume_at, Update_at, Print_text, Keep_print, Finish_run, End, Fail, body_in}
use Rattle.sv_flat.specs.Config.{Config, process_at, set_at, with_process}
use Rattle.sv_flat.specs.Effects.Ends.{ended, heap_without, not_due_to, is_running, is_ended}
use Rattle.sv_sound.specs.Sound.{is_held, AreChildren, is_complete, IsSound, IsPlainTodo, AreAwaited, AreStates, is_pending, is_parked, weight, weight_of_all, weight_of_event, weight_of_running, parked_weight}
use Rattle.sv_sound.specs.After.{with_state, remaining, over}
use Rattle.sv_sound.proofs.Weights.{parked_still, parked_begun, parked_done, one, one_self, once, regions_absent, absent_later, all_still}
use Rattle.sv_sound.proofs.States.{not_parked, calm_awaits}
use Rattle.sv_sound.proofs.Related.{not_joining, related_set, made_set}
use Rattle.sv_sound.proofs.Changes.{known, plain_at, states_with, related_with}

-- ---- the process that runs

one_test : (p : ProcessId) → is_running (Some p) p ≡ true
one_test p = eq-eqb p.0 p.0 refl

module _ (d : Parts) (c : Config) (k : IsSound d c) (p : ProcessId) (r : c.running ≡ Some p) where
  pub running_known : p.0 < length c.processes
  running_known =
      let o : weight_of_running (one p) c.running ≡ 1 = ap (weight_of_running (one p)) r ∙ one_self p in
      known d c k p (omega (arith, o))

  alone : sum_by (one p) (standing c.regions) + sum_by (weight_of_event (one p)) c.future + parked_weight (one p) 0 c.processes ≡ 0
  alone =
      let w : weight (one p) c ≤ weight_of_all (one p) c.processes = k.weights (one p) in
      let o : weight_of_running (one p) c.running ≡ 1 = ap (weight_of_running (one p)) r ∙ one_self p in
      omega (arith, w, o, once p 0 c.processes)

  -- it stands nowhere else
  pub regions_still : regions_without p c.regions ≡ c.regions
  regions_still = regions_absent p c.regions (let a = alone in omega (arith, a))

  pub future_still : filter (not_due_to p) c.future ≡ c.future
  future_still = absent_later p c.future (let a = alone in omega (arith, a))

  heap_still : heap_without p c.heap ≡ c.heap
  heap_still = ap (heap_without p) k.no_heap ∙ sym k.no_heap

  pub runs_calm : (q : ProcessState) → process_at c p ≡ Some q → is_parked q.latest ≡ false
  runs_calm q is = by_test (is_parked q.latest) refl
    where
      by_test : (b : Bool) → is_parked q.latest ≡ b → is_parked q.latest ≡ false
      by_test false e = e
      by_test true e =
          let a = alone in
          let k = parked_done (one p) c.processes p q (record q { latest = Process.Ended }) is e refl in
          let o = one_self p in
          absurd (omega (arith, a, k, o))

  module _ (q : ProcessState) (is : process_at c p ≡ Some q) where
    -- a process that ends leaves all else as it is
    pub ended_is : ended p c ≡ over p q c
    ended_is =
        let f : ProcessState → ProcessState = λ q. record q { latest = Process.Ended; rest = [] } in
        let stop : (if is_running c.running p then None else c.running) ≡ None = ap (λ o. if is_running o p then None else o) r ∙ ap (λ b. if b then None else Some p) (one_test p) in
        ap (λ o. with_process p f (record c { running = o; regions = regions_without p c.regions; world = record c.world { heap = heap_without p c.heap }; future = filter (not_due_to p) c.future })) stop
        ∙ ap (λ rs. with_process p f (record c { running = None; regions = rs; world = record c.world { heap = heap_without p c.heap }; future = filter (not_due_to p) c.future })) regions_still
        ∙ ap (λ h. with_process p f (record c { running = None; world = record c.world { heap = h }; future = filter (not_due_to p) c.future })) heap_still
        ∙ ap (λ es. with_process p f (record c { running = None; future = es })) future_still
        ∙ ap (λ o. record c { running = None; processes = set_at o f p c.processes }) is

    -- and comes into any other state of its own
    pub states_of : (v : ProcessState) → v.side ≡ q.side → v.program ≡ q.program → v.parent ≡ q.parent → v.was_taken ≡ q.was_taken → AllByRecursion IsPlainTodo v.rest → AreAwaited v.latest
        → is_held v.latest ≡ false → AreStates (is_pending d.processes (slice_set c.processes p.0 v)) d.processes (slice_set c.processes p.0 v)
    states_of v s g a t h w l = states_with d c k p q is (λ x. not_parked q.latest (runs_calm q is)) v s g a t h w l

    pub rest_plain : AllByRecursion IsPlainTodo q.rest
    rest_plain = (plain_at d c k p q is).rest

    -- one in which it is not parked, and not over where it was not
    pub state_sound : (v : ProcessState) → v.side ≡ q.side → v.program ≡ q.program → v.parent ≡ q.parent → v.was_taken ≡ q.was_taken → AllByRecursion IsPlainTodo v.rest
        → is_parked v.latest ≡ false → (is_ended v.latest ≡ true → is_ended q.latest ≡ true) → IsSound d (with_state p v c)
    state_sound v s g a t h n o = record {
      no_heap = k.no_heap;
      no_clocks = k.no_clocks;
      no_monitor = k.no_monitor;
      plain = k.plain;
      each_event = k.each_event;
      states = states_of v s g a t h (calm_awaits v.latest n) (not_parked v.latest n);
      related = related_with d c k p q is v s a o (not_joining v.latest n);
      made = made_set c.processes p.0 v c.activations k.made;
      weights = λ w.
          let h = k.weights w in
          let e = parked_still w c.processes p q v is (n ∙ sym (runs_calm q is)) in
          let a = all_still w c.processes p.0 v in
          omega (arith, h, e, a);
    }

    pub remain_sound : (rest : List Todo) → AllByRecursion IsPlainTodo rest → IsSound d (remaining p q rest c)
    remain_sound rest h = state_sound (record q { rest = rest }) refl refl refl refl h (runs_calm q is) (λ e. e)

    -- one in which it is parked
    pub parks_sound : (v : ProcessState) → v.side ≡ q.side → v.program ≡ q.program → v.parent ≡ q.parent → v.was_taken ≡ q.was_taken → AllByRecursion IsPlainTodo v.rest → AreAwaited v.latest
        → is_parked v.latest ≡ true → is_held v.latest ≡ false → is_ended v.latest ≡ false → AreChildren c.processes p v.latest × (is_complete c.processes v.latest ≡ false)
        → IsSound d (record (with_state p v c) { running = None })
    parks_sound v s g a t h b n l o m = record {
      no_heap = k.no_heap;
      no_clocks = k.no_clocks;
      no_monitor = k.no_monitor;
      plain = k.plain;
      each_event = k.each_event;
      states = states_of v s g a t h b l;
      related = related_set c.processes k.related p q is v s a (λ e. let z : false ≡ true = sym o ∙ e in absurd (cc)) m;
      made = made_set c.processes p.0 v c.activations k.made;
      weights = λ w.
          let h = k.weights w in
          let o : weight_of_running w c.running ≡ w p = ap (weight_of_running w) r in
          let e = parked_begun w c.processes p q v is (runs_calm q is) n in
          let y = all_still w c.processes p.0 v in
          omega (arith, h, o, e, y);
    }
