-- What is scheduled, who becomes ready and who ends: all this keeps two configurations alike.
use Rattle.std.proofs.Common.{ℕ, ◌≡◌, List, [], ◌∷◌, ◌++◌, Option, None, Some, Bool, true, false, cond, refl, ap, subst, sym, ◌∙◌, ◌+◌, filter}
use Rattle.std.specs.Prelude.{if◌then◌else◌, ◌==◌, slice_index_or}
use Rattle.std.proofs.lemmas.List.Elements.{filter-append}
use Rattle.sv_value.specs.declared.number.ProcessId.{ProcessId}
use Rattle.sv_value.specs.declared.number.ClockId.{ClockId}
use Rattle.sv_value.specs.declared.place.Place.{Place}
use Rattle.sv_value.specs.declared.place.FaultKind.TheVariants as fault
use Rattle.sv_value.specs.declared.schedule.Side.{Side}
use Rattle.sv_value.specs.declared.schedule.Side.TheVariants.{Active, Reactive}
use Rattle.sv_value.specs.declared.schedule.Event.{Event}
use Rattle.sv_value.specs.declared.schedule.Job.{Job}
use Rattle.sv_value.specs.declared.schedule.Job.TheVariants.{Update, Clock}
use Rattle.sv_value.specs.declared.schedule.Due.{Due}
use Rattle.sv_value.specs.declared.schedule.Due.TheVariants.{Work}
use Rattle.sv_value.specs.declared.schedule.Region.{Region}
use Rattle.sv_value.specs.declared.schedule.Region.TheVariants as region
use Rattle.sv_value.specs.Vector.{Vector}
use Rattle.sv_value.specs.Waiting.{Woken}
use Rattle.sv_value.specs.Regions.{Regions, Set, set_of, with_clock, set_without, ready_in, job_in, regions_without, front_of, updates_of, same_side}
use Rattle.sv_flat.specs.declared.process.Process.{Process}
use Rattle.sv_flat.specs.declared.process.ProcessKind.{ProcessKind}
use Rattle.sv_flat.specs.declared.process.ProcessKind.TheVariants as kind
use Rattle.sv_flat.specs.declared.stmt.PrintKind.{PrintKind}
use Rattle.sv_flat.specs.declared.stmt.PrintKind.TheVariants as print
use Rattle.sv_flat.specs.declared.design.Parts.{Parts}
use Rattle.sv_flat.specs.Process
use Rattle.sv_flat.specs.Process.{ProcessState, Ready, Waiting, Until, Moment, Turn_in_slot, Watches, Spot, Cell, Variable_of, Property_of, Item_of, Effect, Remain, Enter, Write, Make, Copy, Make_mailbox, Make_semaphore, Contain, Serve, Grant, Queue_at_mailbox, Queue_at_semaphore, Queue_at_event, Trigger_event, Suspend, Resume_at, Update_at, Drive_output, Spawn, Await_children, End_descendants, Print_text, Keep_print, Finish_run, Exit_program, End, Fail, body_in}
use Rattle.sv_flat.specs.Config.{Config, Strobe, first_process, with_process, side_of, made_ready, all_made_ready, met_fault}
use Rattle.sv_flat.specs.Effects.{handed}
use Rattle.sv_flat.specs.Effects.Writes.{changed_at}
use Rattle.sv_flat.specs.Effects.Scheduling.{scheduled, suspended, update_scheduled, may_come, drive_update, drive_scheduled, clock_at, no_clock, clock_changed, drove, kept_print}
use Rattle.sv_flat.specs.Effects.Ends.{ended, heap_without, not_due_to, is_running, at_end, program_checked}
use Rattle.sv_flat.specs.Laws.{region_side}
use Rattle.sv_frame.proofs.Alike.{Alike, Moves, stays, moves_on, side_same, running_moves, regions_move, future_moves, fault_moves, process_moves, heap_moves, clocks_move, strobe_moves, monitor_moves, unseen}
use Rattle.sv_frame.proofs.Lists.{filters_swap}

-- ---- regions: what a side gets depends on what it has

pub ready_set : (s : Side) (g : Region) (p : ProcessId) (r t : Regions) → set_of s r ≡ set_of s t → set_of s (ready_in g p r) ≡ set_of s (ready_in g p t)
ready_set Active region.Active p r t h = ap (λ (x : Set). record x { ready = x.ready ++ p ∷ [] }) h
ready_set Active region.Inactive p r t h = ap (λ (x : Set). record x { idle = x.idle ++ p ∷ [] }) h
ready_set Active region.Reactive p r t h = h
ready_set Active region.ReInactive p r t h = h
ready_set Reactive region.Active p r t h = h
ready_set Reactive region.Inactive p r t h = h
ready_set Reactive region.Reactive p r t h = ap (λ (x : Set). record x { ready = x.ready ++ p ∷ [] }) h
ready_set Reactive region.ReInactive p r t h = ap (λ (x : Set). record x { idle = x.idle ++ p ∷ [] }) h
ready_set s region.Nba p r t h = h
ready_set s region.Observed p r t h = h
ready_set s region.ReNba p r t h = h

job_set : (s : Side) (g : Region) (j : Job) (r t : Regions) → set_of s r ≡ set_of s t → set_of s (job_in g j r) ≡ set_of s (job_in g j t)
job_set Active region.Nba j r t h = ap (λ (x : Set). record x { updates = x.updates ++ j ∷ [] }) h
job_set Reactive region.Nba j r t h = h
job_set Active region.Observed (Clock k) r t h = ap (λ (x : Set). record x { clocks = with_clock k x.clocks }) h
job_set Reactive region.Observed (Clock k) r t h = h
job_set s region.Observed (Update us) r t h = h
job_set Active region.ReNba j r t h = h
job_set Reactive region.ReNba j r t h = ap (λ (x : Set). record x { updates = x.updates ++ j ∷ [] }) h
job_set s region.Active j r t h = h
job_set s region.Inactive j r t h = h
job_set s region.Reactive j r t h = h
job_set s region.ReInactive j r t h = h

without_set : (s : Side) (p : ProcessId) (r t : Regions) → set_of s r ≡ set_of s t → set_of s (regions_without p r) ≡ set_of s (regions_without p t)
without_set Active p r t h = ap (set_without p) h
without_set Reactive p r t h = ap (set_without p) h

-- a process of no program
pub record HasBody (o : Option Process) : Type 0 where
  pub process : Process
  pub is : o ≡ Some process
  pub of_module : process.program ≡ None

-- ---- what is scheduled, and who waits

module _ (d : Parts) (s : Side) (p : ProcessId) where
  pub two : (c e x y u v : Config) → Moves d s p c e x y → (Alike d s p x y → Moves d s p x y u v) → Moves d s p c e u v
  two c e x y u v m n = moves_on d s p c e x y u v m (n m.like)

  pub scheduled_moves : (c e : Config) → Alike d s p c e → (t : ℕ) (g k : Region) → g ≡ k → (x : Due) → Moves d s p c e (scheduled t g x c) (scheduled t k x e)
  scheduled_moves c e h t g k same x =
      let test : Event → Bool = λ v. same_side s (region_side v.region) in
      let new : Region → Event = λ g. record { time = t; region = g; due = x } in
      future_moves d s p c e h (c.future ++ new g ∷ []) (e.future ++ new k ∷ [])
      (λ old. filter-append test c.future (new g ∷ []) ∙ (λ i. old i ++ filter test (new (same i) ∷ [])) ∙ sym (filter-append test e.future (new k ∷ [])))

  pub suspended_moves : (c e : Config) → Alike d s p c e → (r : ProcessId) (u : Until) → Moves d s p c e (suspended r u c) (suspended r u e)
  suspended_moves c e h r u =
      two c e (record c { running = None }) (record e { running = None }) (suspended r u c) (suspended r u e) (running_moves d s p c e h None None refl)
      (λ k. process_moves d s p (record c { running = None }) (record e { running = None }) k r (λ q. record q { latest = Waiting u }) (λ q. refl))

  pub update_moves : (c e : Config) → Alike d s p c e → (a b : Side) → a ≡ b → (t u : ℕ) → t ≡ u → (j : Job) → Moves d s p c e (update_scheduled a t j c) (update_scheduled b u j e)
  update_moves c e h a b side t u moment j =
      subst (λ b. Moves d s p c e (update_scheduled a t j c) (update_scheduled b u j e)) side
      (subst (λ u. Moves d s p c e (update_scheduled a t j c) (update_scheduled a u j e)) moment
      (by_test (t == c.time) (t == e.time) (ap (λ n. t == n) h.reach.time)))
    where
      by_test : (x y : Bool) → x ≡ y
          → Moves d s p c e (cond x (record c { regions = job_in (updates_of a) j c.regions }) (scheduled t (updates_of a) (Work j) c))
          (cond y (record e { regions = job_in (updates_of a) j e.regions }) (scheduled t (updates_of a) (Work j) e))
      by_test true true k = regions_move d s p c e h _ _ (job_set s (updates_of a) j c.regions e.regions)
      by_test false false k = scheduled_moves c e h t (updates_of a) (updates_of a) refl (Work j)
      by_test true false k = absurd (cc)
      by_test false true k = absurd (cc)

  -- ---- drives

  drive_moves : (c e : Config) → Alike d s p c e → (at : Place) (o : Option (ℕ × Job)) → Moves d s p c e (drive_scheduled at o c) (drive_scheduled at o e)
  drive_moves c e h at None = stays d s p c e h
  drive_moves c e h at (Some u) = by_test (may_come (c.time + u.0)) (may_come (e.time + u.0)) (ap (λ n. may_come (n + u.0)) h.reach.time)
    where
      by_test : (x y : Bool) → x ≡ y
          → Moves d s p c e (cond x (update_scheduled Reactive (c.time + u.0) u.1 c) (met_fault fault.Time at c)) (cond y (update_scheduled Reactive (e.time + u.0) u.1 e) (met_fault fault.Time at e))
      by_test true true k = update_moves c e h Reactive Reactive refl (c.time + u.0) (e.time + u.0) (ap (λ n. n + u.0) h.reach.time) u.1
      by_test false false k = fault_moves d s p c e h fault.Time at
      by_test true false k = absurd (cc)
      by_test false true k = absurd (cc)

  pub drove_moves : (c e : Config) → Alike d s p c e → (at : Place) (k : ClockId) (n : ℕ) (v : Vector) → Moves d s p c e (drove d at k n v c) (drove d at k n v e)
  drove_moves c e h at k n v = by_test (clock_at c k).was_taken (clock_at e k).was_taken (ap (λ qs. (slice_index_or qs k.0 no_clock).was_taken) h.reach.clocks)
    where
      by_test : (x y : Bool) → x ≡ y
          → Moves d s p c e (cond x (drive_scheduled at (drive_update d k n v) c) (clock_changed k (λ q. record q { kept = q.kept ++ record { signal = n; value = v } ∷ [] }) c))
          (cond y (drive_scheduled at (drive_update d k n v) e) (clock_changed k (λ q. record q { kept = q.kept ++ record { signal = n; value = v } ∷ [] }) e))
      by_test true true z = drive_moves c e h at (drive_update d k n v)
      by_test false false z = clocks_move d s p c e h (λ qs. changed_at qs k.0 (λ q. record q { kept = q.kept ++ record { signal = n; value = v } ∷ [] }))
      by_test true false z = absurd (cc)
      by_test false true z = absurd (cc)

  -- ---- processes that become ready

  pub ready_moves : (c e : Config) → Alike d s p c e → (r : ProcessId) → Moves d s p c e (made_ready r c) (made_ready r e)
  ready_moves c e h r =
      let x : Config = record c { regions = ready_in (front_of (side_of c r)) r c.regions } in
      let y : Config = record e { regions = ready_in (front_of (side_of e r)) r e.regions } in
      two c e x y (made_ready r c) (made_ready r e)
      (regions_move d s p c e h (ready_in (front_of (side_of c r)) r c.regions) (ready_in (front_of (side_of e r)) r e.regions)
      (λ k. ready_set s (front_of (side_of c r)) r c.regions e.regions k ∙ (λ i. set_of s (ready_in (front_of (side_same d s p c e h r i)) r e.regions))))
      (λ k. process_moves d s p x y k r (λ q. record q { latest = Ready }) (λ q. refl))

  pub all_ready_move : (c e : Config) → Alike d s p c e → (rs : List ProcessId) → Moves d s p c e (all_made_ready rs c) (all_made_ready rs e)
  all_ready_move c e h [] = stays d s p c e h
  all_ready_move c e h (r ∷ rs) = two c e (made_ready r c) (made_ready r e) _ _ (ready_moves c e h r) (λ k. all_ready_move (made_ready r c) (made_ready r e) k rs)

  pub handed_moves : (c e : Config) → Alike d s p c e → (ws : List Woken) → Moves d s p c e (handed ws c) (handed ws e)
  handed_moves c e h [] = stays d s p c e h
  handed_moves c e h (w ∷ ws) =
      let f : ProcessState → ProcessState = λ q. record q { handed = w.message } in
      two c e (with_process w.process f c) (with_process w.process f e) _ _ (process_moves d s p c e h w.process f (λ q. refl))
      (λ k. two (with_process w.process f c) (with_process w.process f e) (made_ready w.process (with_process w.process f c)) (made_ready w.process (with_process w.process f e)) _ _
      (ready_moves (with_process w.process f c) (with_process w.process f e) k w.process)
      (λ l. handed_moves (made_ready w.process (with_process w.process f c)) (made_ready w.process (with_process w.process f e)) l ws))

  -- ---- prints

  pub kept_moves : (c e : Config) → Alike d s p c e → (k : PrintKind) (x y : Strobe) → x ≡ y → Moves d s p c e (kept_print k x c) (kept_print k y e)
  kept_moves c e h print.Now x y same = stays d s p c e h
  kept_moves c e h print.Strobe x y same = strobe_moves d s p c e h x y same
  kept_moves c e h print.Monitor x y same = monitor_moves d s p c e h (Some (record { print = x; last = None })) (Some (record { print = y; last = None })) (λ i. Some (record { print = same i; last = None }))

  -- ---- ends

  pub ended_moves : (c e : Config) → Alike d s p c e → (r : ProcessId) → Moves d s p c e (ended r c) (ended r e)
  ended_moves c e h r =
      let f : ProcessState → ProcessState = λ q. record q { latest = Process.Ended; rest = [] } in
      let test : Event → Bool = λ v. same_side s (region_side v.region) in
      let stop : Option ProcessId → Option ProcessId = λ o. if is_running o r then None else o in
      let x : Config = record c { running = stop c.running; regions = regions_without r c.regions; future = filter (not_due_to r) c.future } in
      let y : Config = record e { running = stop e.running; regions = regions_without r e.regions; future = filter (not_due_to r) e.future } in
      let u : Config = record x { world = record c.world { heap = heap_without r c.heap } } in
      let v : Config = record y { world = record e.world { heap = heap_without r e.heap } } in
      two c e x y (ended r c) (ended r e)
      (unseen d s p c e h (stop c.running) (stop e.running) (ap stop h.running)
      (regions_without r c.regions) (regions_without r e.regions) (without_set s r c.regions e.regions)
      (filter (not_due_to r) c.future) (filter (not_due_to r) e.future)
      (λ k. filters_swap test (not_due_to r) c.future ∙ ap (filter (not_due_to r)) k ∙ filters_swap (not_due_to r) test e.future)
      c.finishing e.finishing (λ k. k) c.fault e.fault h.fault)
      (λ k. two x y u v (ended r c) (ended r e) (heap_moves d s p x y k (heap_without r c.heap) (heap_without r e.heap) (ap (heap_without r) h.reach.heap))
      (λ l. process_moves d s p u v l r f (λ q. refl)))

  pub end_moves : (c e : Config) → Alike d s p c e → HasBody (first_process d p) → Moves d s p c e (at_end d p (first_process d p) c) (at_end d p (first_process d p) e)
  end_moves c e h b =
      subst (λ o. Moves d s p c e (at_end d p o c) (at_end d p o e)) (sym b.is) (by_kind b.process b.of_module b.process.kind refl)
    where
      again_moves : (f : Process) → Moves d s p c e (with_process p (λ q. record q { rest = body_in d f.body None }) c) (with_process p (λ q. record q { rest = body_in d f.body None }) e)
      again_moves f = process_moves d s p c e h p (λ q. record q { rest = body_in d f.body None }) (λ q. refl)

      watch_moves : (f : Process) → Moves d s p c e (suspended p (Watches f.watched None) (with_process p (λ q. record q { rest = body_in d f.body None }) c))
          (suspended p (Watches f.watched None) (with_process p (λ q. record q { rest = body_in d f.body None }) e))
      watch_moves f =
          let x = with_process p (λ q. record q { rest = body_in d f.body None }) c in
          let y = with_process p (λ q. record q { rest = body_in d f.body None }) e in
          two c e x y _ _ (again_moves f) (λ k. suspended_moves x y k p (Watches f.watched None))

      over_moves : (f : Process) → f.program ≡ None → Moves d s p c e (program_checked d f.program (ended p c)) (program_checked d f.program (ended p e))
      over_moves f none =
          subst (λ g. Moves d s p c e (program_checked d g (ended p c)) (program_checked d g (ended p e))) (sym none) (ended_moves c e h p)

      by_kind : (f : Process) → f.program ≡ None → (m : ProcessKind) → f.kind ≡ m → Moves d s p c e (at_end d p (Some f) c) (at_end d p (Some f) e)
      by_kind f none m is =
          subst (λ m. Moves d s p c e (at_end d p (Some (record f { kind = m })) c) (at_end d p (Some (record f { kind = m })) e)) (sym is) (of_kind m)
        where
          of_kind : (m : ProcessKind) → Moves d s p c e (at_end d p (Some (record f { kind = m })) c) (at_end d p (Some (record f { kind = m })) e)
          of_kind kind.Initial = over_moves f none
          of_kind kind.Always = again_moves f
          of_kind kind.AlwaysFf = again_moves f
          of_kind kind.AlwaysComb = watch_moves f
          of_kind kind.Assign = watch_moves f
          of_kind kind.Port = watch_moves f
