-- Each step leaves what the processes have still to run in the bodies of their sides.
use Rattle.std.proofs.Common.{ℕ, zero, suc, ◌≡◌, ◌+◌, List, [], ◌∷◌, ◌++◌, Option, None, Some, Bool, true, false, cond, refl, ap, subst, sym, ◌∙◌, map, inl, inr, slice_get, slice_set, remove}
use Rattle.std.specs.Prelude.{◌⊎◌, Result, Ok, Err, option_map, is_some, ◌==◌, ◌&&◌, not, length, nat_lt, ◌^◌}
use Rattle.std.specs.List.{AllByRecursion}
use Rattle.std.proofs.lemmas.Option.{slice_get-map}
use Rattle.sv_value.specs.declared.number.ProcessId.{ProcessId}
use Rattle.sv_value.specs.declared.number.ClockId.{ClockId}
use Rattle.sv_value.specs.declared.place.Place.{Place}
use Rattle.sv_value.specs.declared.place.FaultKind.{FaultKind}
use Rattle.sv_value.specs.declared.val.Val.{Val}
use Rattle.sv_value.specs.declared.val.Val.TheVariants as val
use Rattle.sv_value.specs.declared.schedule.Side.{Side}
use Rattle.sv_value.specs.declared.schedule.Side.TheVariants.{Reactive}
use Rattle.sv_value.specs.declared.schedule.Job.{Job}
use Rattle.sv_value.specs.declared.schedule.Job.TheVariants as job
use Rattle.sv_value.specs.declared.schedule.Update.{Update}
use Rattle.sv_value.specs.Vector.{Vector}
use Rattle.sv_value.specs.Waiting.{Woken, served, granted}
use Rattle.sv_value.specs.Regions.{set_of, with_set}
use Rattle.sv_flat.specs.declared.clocking.Signal.{Signal}
use Rattle.sv_flat.specs.declared.clocking.Input.{Input}
use Rattle.sv_flat.specs.declared.process.Process.{Process}
use Rattle.sv_flat.specs.declared.process.ProcessKind.{ProcessKind}
use Rattle.sv_flat.specs.declared.process.ProcessKind.TheVariants as kind
use Rattle.sv_flat.specs.declared.stmt.PrintKind.{PrintKind}
use Rattle.sv_flat.specs.declared.stmt.PrintKind.TheVariants as print
use Rattle.sv_flat.specs.declared.design.Parts.{Parts}
use Rattle.sv_flat.specs.Process
use Rattle.sv_flat.specs.Process.{ProcessState, Running, Ready, Waiting, Until, Turn_in_slot, Moment, Watches, Cell, Spot, Variable_of, Effect, Remain, Enter, Write, Serve, Grant, Suspend, Resume_at, Update_at, Drive_output, Spawn, Await_children, End_descendants, Keep_print, Exit_program, End, body_in, no_place}
use Rattle.sv_flat.specs.Config.{Config, Kept, Strobe, Monitor, process_at, set_at, with_process, first_process, made_ready, all_made_ready, processes_with, seen}
use Rattle.sv_flat.specs.Woken.{Changed, Updated, woken}
use Rattle.sv_flat.specs.State.{Name, Activation, Heap, World, same_name}
use Rattle.sv_flat.specs.Eval.{with_result}
use Rattle.sv_flat.specs.declared.object.DataType.{DataType}
use Rattle.sv_value.specs.declared.number.ObjId.{ObjId}
use Rattle.sv_value.specs.declared.schedule.Range.{Range}
use Rattle.sv_value.specs.declared.place.FaultKind.TheVariants as fault
use Rattle.sv_flat.specs.Effects.Creation.{entered, fresh_values}
use Rattle.sv_flat.specs.Micro.{micro}
use Rattle.sv_flat.specs.Effects.{applied, with_world, world_after, scheduled_after, made_by, handed, exited, after_change, write_occurred, occurred, woken_by_effect, clocks_from}
use Rattle.sv_flat.specs.Effects.Writes.{Worlded, stored_over, changed_at, value_over, variable_over}
use Rattle.sv_flat.specs.Effects.Scheduling.{suspended, update_scheduled, may_come, drive_update, drive_scheduled, clock_at, drove, awaiting, kept_print, clocking_of}
use Rattle.sv_flat.specs.Effects.Ends.{ended, all_ended, at_end, program_ended, program_in, program_checked, finished_if_over, living_children, descendants, joined, is_ended, same_program}
use Rattle.sv_flat.specs.Clocks.{new_samples, sample_written, samples_written, with_fewer, updated_waits, waiters_woken, kept_scheduled, kept_drives, clock_updated}
use Rattle.sv_flat.specs.Steps.{Kind, Begin_slot, Take_process, Run_statement, Take_job, Move_region, End_slot, Next_time, acting, front, effect, taken_at, combs_started, held_combs, is_starter, waiting_starters, job_taken, job_done, job_spot, updates_written, strobe_text, strobe_printed, strobes_printed, monitor_tried, monitor_printed, is_due, closed, slot_ended}
use Rattle.sv_frame.proofs.Ways.{IsIn}
use Rattle.sv_frame.proofs.Paths.{body_of_side}
use Rattle.sv_frame.proofs.Heaps.{heaped, heap_after, effect_heap}
use Rattle.sv_frame.proofs.Masks.{KeepsSide}
use Rattle.sv_frame.proofs.Scopes.{sides, IsScope, IsEnclosed, side_listed}
use Rattle.sv_frame.proofs.Home.{IsHome}
use Rattle.sv_frame.proofs.MicroHome.{IsHomeEffect, body_home, both}

-- what is left to run of a process stands in the bodies of its side
abbrev pub IsHomeState : Parts → List Side → ProcessState → Type 0
IsHomeState d ss q = AllByRecursion (IsHome d ss q.side) q.rest

-- all processes are of these sides, each has left to run what stands there, and each activation stands in a scope of its side
pub record AreHome (d : Parts) (ss : List Side) (ps : List ProcessState) (made : List Activation) : Type 0 where
  pub each : (p : ProcessId) (q : ProcessState) → slice_get ps p.0 ≡ Some q → IsHomeState d ss q
  pub are : sides ps ≡ ss
  pub around : AllByRecursion (IsEnclosed ss) made

pub some_same : {A : Type 0} {a b : A} → Some a ≡ Some b → a ≡ b
some_same h = cc

found_in : (ps : List ProcessState) (i j : ℕ) (v q : ProcessState) → slice_get (slice_set ps i v) j ≡ Some q → (slice_get ps j ≡ Some q) ⊎ ((j ≡ i) × (v ≡ q))
found_in [] i j v q h = absurd (cc)
found_in (x ∷ ps) zero zero v q h = inr (refl, some_same h)
found_in (x ∷ ps) zero (suc j) v q h = inl h
found_in (x ∷ ps) (suc i) zero v q h = inl h
found_in (x ∷ ps) (suc i) (suc j) v q h = by_place (found_in ps i j v q h)
  where
    by_place : (slice_get ps j ≡ Some q) ⊎ ((j ≡ i) × (v ≡ q)) → (slice_get ps j ≡ Some q) ⊎ ((suc j ≡ suc i) × (v ≡ q))
    by_place (inl e) = inl e
    by_place (inr e) = inr (ap suc e.0, e.1)

pub in_at : {A : Type 0} (xs : List A) (i : ℕ) (x : A) → slice_get xs i ≡ Some x → IsIn x xs
in_at [] i x h = absurd (cc)
in_at (y ∷ xs) zero x h = inl (sym (some_same h))
in_at (y ∷ xs) (suc i) x h = inr (in_at xs i x h)

-- a process in another state is of the same side
sides_set : (ps : List ProcessState) (i : ℕ) (v q : ProcessState) → slice_get ps i ≡ Some q → v.side ≡ q.side → sides (slice_set ps i v) ≡ sides ps
sides_set [] i v q h e = refl
sides_set (x ∷ ps) zero v q h e = ap (λ s. s ∷ sides ps) (e ∙ ap (λ (u : ProcessState). u.side) (sym (some_same h)))
sides_set (x ∷ ps) (suc i) v q h e = ap (λ (ss : List Side). x.side ∷ ss) (sides_set ps i v q h e)

-- the sides of the processes that the design begins with
abbrev pub sides_of : Parts → List Side
sides_of d = map (λ f. f.side) d.processes

-- what is left to run stands in the bodies of these sides
abbrev pub AllHome : Parts → List Side → Config → Type 0
AllHome d ss c = AreHome d ss c.processes c.activations

-- the processes that the design begins with are of these sides
abbrev pub BeginsWith : Parts → List Side → Type 0
BeginsWith d ss = (p : ProcessId) (f : Process) → first_process d p ≡ Some f → slice_get ss p.0 ≡ Some f.side

module _ (d : Parts) (ss : List Side) (begins : BeginsWith d ss) where
  abbrev Home : Config → Type 0
  Home c = AllHome d ss c

  -- a change after which what is left to run of a process still stands there
  abbrev KeepsHome : ProcessId → (ProcessState → ProcessState) → Type 0
  KeepsHome p f = (q : ProcessState) → slice_get ss p.0 ≡ Some q.side → IsHomeState d ss q → IsHomeState d ss (f q)

  set_home : (p : ProcessId) (f : ProcessState → ProcessState) → KeepsSide f → KeepsHome p f → (ps : List ProcessState) (made : List Activation) (o : Option ProcessState)
      → slice_get ps p.0 ≡ o
      → AreHome d ss ps made → AreHome d ss (set_at o f p ps) made
  set_home p f n g ps made None e h = h
  set_home p f n g ps made (Some x) e h = record {
    each = λ r q is. by_place r q (found_in ps p.0 r.0 (f x) q is);
    are = sides_set ps p.0 (f x) x e (n x) ∙ h.are;
    around = h.around;
  }
    where
      by_place : (r : ProcessId) (q : ProcessState) → (slice_get ps r.0 ≡ Some q) ⊎ ((r.0 ≡ p.0) × (f x ≡ q)) → IsHomeState d ss q
      by_place r q (inl k) = h.each r q k
      by_place r q (inr k) = subst (IsHomeState d ss) k.1 (g x (ap (λ (xs : List Side). slice_get xs p.0) (sym h.are) ∙ side_listed ps p.0 x e) (h.each p x e))

  pub process_home : (p : ProcessId) (f : ProcessState → ProcessState) → KeepsSide f → KeepsHome p f → (c : Config) → Home c → Home (with_process p f c)
  process_home p f n g c h = set_home p f n g c.processes c.activations (process_at c p) refl h

  either_home : (b : Bool) (x y : Config) → Home x → Home y → Home (cond b x y)
  either_home true x y h k = h
  either_home false x y h k = k

  -- ---- wakes

  ready_home : (p : ProcessId) (c : Config) → Home c → Home (made_ready p c)
  ready_home p c h = set_home p (λ q. record q { latest = Ready }) (λ q. refl) (λ q i k. k) c.processes c.activations (process_at c p) refl h

  all_ready_home : (ps : List ProcessId) (c : Config) → Home c → Home (all_made_ready ps c)
  all_ready_home [] c h = h
  all_ready_home (p ∷ ps) c h = all_ready_home ps (made_ready p c) (ready_home p c h)

  pub change_home : (ps : List ProcessId) (old new : Config) → Home new → Home (after_change d ps old new)
  change_home ps old new h = all_ready_home ps (record new { regions = clocks_from 0 d.clockings old new new.regions }) h

  handed_home : (ws : List Woken) (c : Config) → Home c → Home (handed ws c)
  handed_home [] c h = h
  handed_home (w ∷ ws) c h =
      let x = with_process w.process (λ q. record q { handed = w.message }) c in
      handed_home ws (made_ready w.process x) (ready_home w.process x (process_home w.process (λ q. record q { handed = w.message }) (λ q. refl) (λ q i k. k) c h))

  -- a write to an element of an object
  write_home : (at : Place) (o : ObjId) (i : ℕ) (r : Option Range) (v : Val) (c : Config) → Home c → Home (write_occurred d at (Cell o i r) v c)
  write_home at o i r v c h =
      let e : Config = record c { world = record c.world { store = changed_at c.store o.0 (stored_over i r v) } } in
      change_home (woken d Changed c e) c e h

  -- ---- effects

  pub suspended_home : (p : ProcessId) (u : Until) (c : Config) → Home c → Home (suspended p u c)
  suspended_home p u c h = set_home p (λ q. record q { latest = Waiting u }) (λ q. refl) (λ q i k. k) c.processes c.activations (process_at c p) refl h

  update_home : (s : Side) (t : ℕ) (j : Job) (c : Config) → Home c → Home (update_scheduled s t j c)
  update_home s t j c h = either_home (t == c.time) _ _ h h

  drive_home : (at : Place) (o : Option (ℕ × Job)) (c : Config) → Home c → Home (drive_scheduled at o c)
  drive_home at None c h = h
  drive_home at (Some u) c h = either_home (may_come (c.time + u.0)) _ _ (update_home Reactive (c.time + u.0) u.1 c h) h

  drove_home : (at : Place) (k : ClockId) (n : ℕ) (v : Vector) (c : Config) → Home c → Home (drove d at k n v c)
  drove_home at k n v c h = either_home (clock_at c k).was_taken _ _ (drive_home at (drive_update d k n v) c h) h

  awaiting_home : (p : ProcessId) (ps : List ProcessId) (c : Config) → Home c → Home (awaiting p ps c)
  awaiting_home p [] c h = h
  awaiting_home p (q ∷ qs) c h = suspended_home p _ c h

  kept_home : (k : PrintKind) (x : Strobe) (c : Config) → Home c → Home (kept_print k x c)
  kept_home print.Now x c h = h
  kept_home print.Strobe x c h = h
  kept_home print.Monitor x c h = h

  ended_home : (p : ProcessId) (c : Config) → Home c → Home (ended p c)
  ended_home p c h = set_home p (λ q. record q { latest = Process.Ended; rest = [] }) (λ q. refl) (λ q i k. tt) c.processes c.activations (process_at c p) refl h

  all_ended_home : (ps : List ProcessId) (c : Config) → Home c → Home (all_ended ps c)
  all_ended_home [] c h = h
  all_ended_home (p ∷ ps) c h = all_ended_home ps (ended p c) (ended_home p c h)

  finished_home : (c : Config) → Home c → Home (finished_if_over d c)
  finished_home c h = either_home _ _ c h h

  program_home : (n : ℕ) (c : Config) → Home c → Home (program_ended d n c)
  program_home n c h =
      let ps = processes_with (λ p q. same_program q.program n && not (is_ended q.latest)) c in
      finished_home (all_ended ps c) (all_ended_home ps c h)

  exited_home : (o : Option ℕ) (c : Config) → Home c → Home (exited d o c)
  exited_home None c h = h
  exited_home (Some n) c h = program_home n c h

  checked_home : (o : Option ℕ) (c : Config) → Home c → Home (program_checked d o c)
  checked_home None c h = h
  checked_home (Some n) c h = either_home _ _ c (program_home n c h) h

  end_home : (p : ProcessId) (o : Option Process) → first_process d p ≡ o → (c : Config) → Home c → Home (at_end d p o c)
  end_home p None e c h = all_ready_home (joined (ended p c)) (ended p c) (ended_home p c h)
  end_home p (Some f) e c h = by_kind f.kind
    where
      again : Config
      again = with_process p (λ q. record q { rest = body_in d f.body None }) c

      again_home : Home again
      again_home =
          process_home p (λ q. record q { rest = body_in d f.body None }) (λ q. refl)
          (λ q i k. subst (λ s. AllByRecursion (IsHome d ss s) (body_in d f.body None)) (some_same (sym (begins p f e) ∙ i))
          (body_home d ss f.side f.body (body_of_side d f (in_at d.processes p.0 f e)) None tt))
          c h

      by_kind : (m : ProcessKind) → Home (at_end d p (Some (record f { kind = m })) c)
      by_kind kind.Initial = checked_home f.program (ended p c) (ended_home p c h)
      by_kind kind.Always = again_home
      by_kind kind.AlwaysFf = again_home
      by_kind kind.AlwaysComb = suspended_home p (Watches f.watched None) again again_home
      by_kind kind.Assign = suspended_home p (Watches f.watched None) again again_home
      by_kind kind.Port = suspended_home p (Watches f.watched None) again again_home

  -- a fork makes processes
  abbrev pub adds : Effect → Bool
  adds (Spawn rs scope k) = true
  adds x = false

  module _ (at : Place) (p : ProcessId) (s : Side) (mine : slice_get ss p.0 ≡ Some s) where
    beside_home : (x : Effect) → adds x ≡ false → IsHomeEffect d ss s x → (c : Config) → Home c → Home (scheduled_after d at p x c)
    beside_home (Remain rest) n e c h =
        process_home p (λ q. record q { rest = rest }) (λ q. refl) (λ q i k. subst (λ s. AllByRecursion (IsHome d ss s) rest) (some_same (sym mine ∙ i)) e) c h
    beside_home (Enter ts around) n e c h = process_home p (λ q. record q { made = q.made + 1 }) (λ q. refl) (λ q i k. k) c h
    beside_home (Serve k b) n e c h = handed_home (served b).woken c h
    beside_home (Grant k m) n e c h = all_ready_home (granted m).woken c h
    beside_home (Suspend Turn_in_slot) n e c h = suspended_home p Turn_in_slot c h
    beside_home (Suspend u) n e c h = suspended_home p u c h
    beside_home (Resume_at t) n e c h = suspended_home p Moment c h
    beside_home (Update_at t j) n e c h = update_home _ t j c h
    beside_home (Drive_output k m v) n e c h = drove_home at k m v c h
    beside_home (Spawn rs scope k) n e c h = absurd (cc)
    beside_home Await_children n e c h = awaiting_home p (living_children c p) c h
    beside_home End_descendants n e c h = all_ended_home (descendants c p) c h
    beside_home (Keep_print k pieces es) n e c h = kept_home k _ c h
    beside_home Exit_program n e c h = exited_home (program_in (process_at c p)) c h
    beside_home End n e c h = end_home p (first_process d p) refl c h
    beside_home x n e c h = h

    -- the activations of what comes of a world stand in scopes of their sides
    abbrev Enclosed : Worlded → Type 0
    Enclosed (Err k) = Unit {0}
    Enclosed (Ok w) = AllByRecursion (IsEnclosed ss) w.activations

    heaped_enclosed : (r : Result Heap FaultKind) (w : World) → AllByRecursion (IsEnclosed ss) w.activations → Enclosed (heaped r w)
    heaped_enclosed (Err k) w h = tt
    heaped_enclosed (Ok b) w h = h

    over_enclosed : (n : Name) (i : ℕ) (r : Option Range) (x : Val) (xs : List Activation) → AllByRecursion (IsEnclosed ss) xs → AllByRecursion (IsEnclosed ss) (variable_over n i r x xs)
    over_enclosed n i r x [] h = tt
    over_enclosed n i r x (a ∷ xs) h = by_name (same_name a.name n) (over_enclosed n i r x xs h.1)
      where
        by_name : (y : Bool) → AllByRecursion (IsEnclosed ss) (variable_over n i r x xs)
            → AllByRecursion (IsEnclosed ss) (cond y (record a { values = changed_at a.values i (λ v. value_over v r x) } ∷ xs) (a ∷ variable_over n i r x xs))
        by_name true k = (h.0, h.1)
        by_name false k = (h.0, k)

    entered_enclosed : (n : ℕ) (ts : List DataType) (around : Option Name) → IsScope ss s around → (w : World) → AllByRecursion (IsEnclosed ss) w.activations
        → Enclosed (entered p n ts around w)
    entered_enclosed n ts around e w h = by_tests (nat_lt (length w.activations) (2 ^ 24)) (fresh_values ts w.heap)
      where
        new : List Val → Activation
        new vs = record { name = record { process = p; place = n }; around = around; values = vs }

        by_tests : (b : Bool) (v : Result (List Val × Heap) FaultKind)
            → Enclosed (cond b (with_result v (λ a. Ok (record w { heap = a.1; activations = w.activations ++ new a.0 ∷ [] }))) (Err fault.Activations))
        by_tests false v = tt
        by_tests true (Err k) = tt
        by_tests true (Ok a) = both (IsEnclosed ss) w.activations (new a.0 ∷ []) h ((s, mine, e), tt)

    world_enclosed : (n : ℕ) (x : Effect) → IsHomeEffect d ss s x → (w : World) → AllByRecursion (IsEnclosed ss) w.activations → Enclosed (world_after d p n x w)
    world_enclosed n (Enter ts around) e w h = entered_enclosed n ts around e w h
    world_enclosed n (Write (Cell o i r) x) e w h = h
    world_enclosed n (Write (Variable_of m i r) x) e w h = over_enclosed m i r x w.activations h
    world_enclosed n x e w h = subst Enclosed (sym (effect_heap d p n x tt w)) (heaped_enclosed (heap_after d p n x w.heap) w h)

    applied_home : (x : Effect) → adds x ≡ false → IsHomeEffect d ss s x → (c : Config) → Home c → Home (applied d at p x c)
    applied_home x m e c h =
        let n = made_by (process_at c p) in
        by_world (world_after d p n x c.world) (world_enclosed n x e c.world h.around)
      where
        by_world : (w : Worlded) → Enclosed w → Home (with_world d at p x c w)
        by_world (Err k) g = h
        by_world (Ok w) g = beside_home x m e (record c { world = w }) (record { each = h.each; are = h.are; around = g })

    pub occurred_home : (x : Effect) → adds x ≡ false → IsHomeEffect d ss s x → (c : Config) → Home c → Home (occurred d at p x c)
    occurred_home x m e c h = change_home (woken_by_effect d x c (applied d at p x c)) c (applied d at p x c) (applied_home x m e c h)

  -- ---- jobs

  updates_home : (us : List Update) (c : Config) → Home c → Home (updates_written d us c)
  updates_home [] c h = h
  updates_home (u ∷ us) c h = updates_home us (write_occurred d no_place (job_spot u.target) u.value c) (write_home no_place u.target.object u.target.element u.target.part u.value c h)

  sample_home : (at : Place) (i : Option Input) (v : Vector) (c : Config) → Home c → Home (sample_written d at i v c)
  sample_home at None v c h = h
  sample_home at (Some i) v c h = write_home at i.sample 0 None (val.Bits v) c h

  samples_home : (ss : List Signal) (vs : List Vector) (c : Config) → Home c → Home (samples_written d ss vs c)
  samples_home [] vs c h = h
  samples_home (x ∷ ss) [] c h = h
  samples_home (x ∷ ss) (v ∷ vs) c h = samples_home ss vs (sample_written d x.at x.input v c) (sample_home x.at x.input v c h)

  waiters_home : (k : ClockId) (c : Config) → Home c → Home (waiters_woken d k c)
  waiters_home k c h =
      change_home (woken d (Updated k) c c) c (updated_waits k c)
      (record {
        each = λ p q is. fewer p q (slice_get c.processes p.0) refl (sym (slice_get-map (with_fewer k) c.processes p.0) ∙ is);
        are = fewer_sides c.processes ∙ h.are;
        around = h.around;
      })
    where
      fewer_sides : (ps : List ProcessState) → sides (map (with_fewer k) ps) ≡ sides ps
      fewer_sides [] = refl
      fewer_sides (q ∷ ps) = ap (λ (ss : List Side). q.side ∷ ss) (fewer_sides ps)

      fewer : (p : ProcessId) (q : ProcessState) (o : Option ProcessState) → slice_get c.processes p.0 ≡ o → option_map (with_fewer k) o ≡ Some q → IsHomeState d ss q
      fewer p q None e is = absurd (cc)
      fewer p q (Some x) e is = subst (IsHomeState d ss) (some_same is) (h.each p x e)

  scheduled_drive_home : (o : Option (ℕ × Job)) (c : Config) → Home c → Home (kept_scheduled o c)
  scheduled_drive_home None c h = h
  scheduled_drive_home (Some u) c h = either_home (may_come (c.time + u.0)) _ c (update_home Reactive (c.time + u.0) u.1 c h) h

  drives_home : (k : ClockId) (xs : List Kept) (c : Config) → Home c → Home (kept_drives d k xs c)
  drives_home k [] c h = h
  drives_home k (x ∷ xs) c h = drives_home k xs (kept_scheduled (drive_update d k x.signal x.value) c) (scheduled_drive_home (drive_update d k x.signal x.value) c h)

  clock_home : (k : ClockId) (c : Config) → Home c → Home (clock_updated d k c)
  clock_home k c h =
      let taken : Config = record c { clocks = changed_at c.clocks k.0 (λ q. record q { samples = new_samples d c k; was_taken = true; kept = [] }) } in
      let sampled = samples_written d (clocking_of d k).signals (new_samples d c k) taken in
      drives_home k (clock_at c k).kept (waiters_woken d k sampled) (waiters_home k sampled (samples_home (clocking_of d k).signals (new_samples d c k) taken h))

  done_home : (j : Job) (c : Config) → Home c → Home (job_done d j c)
  done_home (job.Update us) c h = updates_home us c h
  done_home (job.Clock k) c h = clock_home k c h

  job_home : (s : Side) (js : List Job) (c : Config) → Home c → Home (job_taken d s js c)
  job_home s [] c h = h
  job_home s (j ∷ js) c h = done_home j _ h

  -- ---- a process is taken

  combs_home : (b : Bool) (c : Config) → Home c → Home (combs_started d b c)
  combs_home true c h = all_ready_home (held_combs d c) c h
  combs_home false c h = h

  taken_home : (s : Side) (place : ℕ) (o : Option ProcessId) (c : Config) → Home c → Home (taken_at d s place o c)
  taken_home s place None c h = h
  taken_home s place (Some p) c h =
      let e : Config = record c { regions = with_set s (record (set_of s c.regions) { ready = remove (set_of s c.regions).ready place }) c.regions } in
      let now = with_process p (λ q. record q { latest = Running; was_taken = true }) (record e { running = Some p }) in
      combs_home (is_starter d e p && (length (waiting_starters d now) == 0)) now
      (set_home p (λ q. record q { latest = Running; was_taken = true }) (λ q. refl) (λ q i k. k) c.processes c.activations (process_at c p) refl h)

  -- ---- the end of a slot

  strobe_home : (x : Strobe) (r : Result (List ℕ) FaultKind) (c : Config) → Home c → Home (strobe_printed x r c)
  strobe_home x (Err k) c h = h
  strobe_home x (Ok t) c h = h

  strobes_home : (xs : List Strobe) (c : Config) → Home c → Home (strobes_printed d xs c)
  strobes_home [] c h = h
  strobes_home (x ∷ xs) c h = either_home (is_some c.fault) c _ h (strobes_home xs (strobe_printed x (strobe_text d c x) c) (strobe_home x (strobe_text d c x) c h))

  tried_home : (m : Monitor) (r : Result (List Val) FaultKind) (c : Config) → Home c → Home (monitor_tried d m r c)
  tried_home m (Err k) c h = h
  tried_home m (Ok xs) c h = either_home (is_due m.print.values xs m.last) _ c (strobe_home m.print (strobe_text d c m.print) (record c { monitor = Some (record m { last = Some xs }) }) h) h

  monitor_home : (o : Option Monitor) (c : Config) → Home c → Home (monitor_printed d o c)
  monitor_home None c h = h
  monitor_home (Some m) c h = either_home (is_some c.fault) c _ h (tried_home m _ c h)

  slot_home : (c : Config) → Home c → Home (slot_ended d c)
  slot_home c h =
      let e = monitor_printed d c.monitor (strobes_printed d c.strobes c) in
      let k : Home e = monitor_home c.monitor (strobes_printed d c.strobes c) (strobes_home c.strobes c h) in
      either_home (is_some e.fault) e (closed e) k k

  -- ---- each kind of step

  -- the next step of the running process has such effects
  abbrev pub RunsHome : Config → Type 0
  RunsHome c = (p : ProcessId) (q : ProcessState) → c.running ≡ Some p → process_at c p ≡ Some q → AllByRecursion (IsHomeEffect d ss q.side) (micro d (seen d c) p q)

  pub own_side : (c : Config) → Home c → (p : ProcessId) (q : ProcessState) → process_at c p ≡ Some q → slice_get ss p.0 ≡ Some q.side
  own_side c h p q is = ap (λ (xs : List Side). slice_get xs p.0) (sym h.are) ∙ side_listed c.processes p.0 q is

  -- a step of any other kind than that of a statement
  pub other_home : (c : Config) → Home c → (m : Kind) → ((e : m ≡ Run_statement) → ⊥) → Home (effect d c m)
  other_home c h Begin_slot n = h
  other_home c h (Take_process place) n = taken_home (acting c) place (slice_get (front c).ready place) c h
  other_home c h Run_statement n = absurd (n refl)
  other_home c h Take_job n = job_home (acting c) (front c).jobs c h
  other_home c h Move_region n = h
  other_home c h End_slot n = slot_home c h
  other_home c h Next_time n = h
