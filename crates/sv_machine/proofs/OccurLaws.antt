-- Each effect, as it occurs: what the machine stands for then, and what is printed.
use Rattle.std.proofs.Common.{ℕ, ◌≡◌, ◌<◌, ◌≤◌, ◌^◌, List, [], ◌∷◌, ◌++◌, Option, None, Some, refl, ap, subst, sym, ◌∙◌, arith, length, slice_get}
use Rattle.std.specs.Prelude.{sum_by, Bool, true, false, ◌==◌, if◌then◌else◌, map, nat_lt}
use Rattle.std.specs.List.{AllByRecursion}
use Rattle.std.specs.List.{Contains}
use Rattle.std.proofs.lemmas.List.{map-append}
use mathlib.Core.List.{append_assoc}
use Rattle.sv_value.specs.declared.number.ProcessId.{ProcessId}
use Rattle.sv_value.specs.declared.place.Place.{Place}
use Rattle.sv_value.specs.declared.place.FaultKind.{FaultKind}
use Rattle.sv_value.specs.declared.schedule.Side.{Side}
use Rattle.sv_value.specs.declared.schedule.Job.{Job}
use Rattle.sv_value.specs.declared.val.Val.{Val}
use Rattle.sv_value.specs.Regions.{standing}
use Rattle.sv_value.specs.declared.operator.Piece.{Piece}
use Rattle.sv_value.specs.declared.schedule.Due.TheVariants.{Work}
use Rattle.sv_value.specs.Regions.{job_in, updates_of}
use Rattle.sv_flat.specs.Expr.{Expr}
use Rattle.sv_flat.specs.declared.process.Process.{Process}
use Rattle.sv_flat.specs.declared.process.ProcessKind.{ProcessKind}
use Rattle.sv_flat.specs.declared.process.ProcessKind.TheVariants as kind
use Rattle.sv_flat.specs.declared.stmt.Stmt.{Stmt}
use Rattle.sv_flat.specs.declared.stmt.Form.{Form}
use Rattle.sv_flat.specs.declared.stmt.Form.TheVariants as form
use Rattle.sv_flat.specs.declared.stmt.PrintKind.TheVariants as print
use Rattle.sv_flat.specs.declared.stmt.JoinKind.{JoinKind}
use Rattle.sv_flat.specs.declared.stmt.JoinKind.TheVariants as join
use Rattle.sv_value.specs.declared.number.RoutineId.{RoutineId}
use Rattle.sv_flat.specs.declared.design.Parts.{Parts}
use Rattle.sv_flat.specs.State.{Name, Activation, first_value}
use Rattle.sv_flat.specs.declared.object.DataType.{DataType}
use Rattle.sv_value.specs.declared.place.FaultKind.TheVariants as fault
use Rattle.sv_flat.specs.Config.{met_fault}
use Rattle.sv_flat.specs.Process.{ProcessState, Effect, Spot, Cell, Variable_of, Nowhere, Enter, Write, Suspend, Turn_in_slot, Watches, Resume_at, Update_at, Spawn, Await_children, End_descendants, Print_text, Keep_print, Finish_run, End, Fail}
use Rattle.sv_flat.specs.Config.{Config, Record, Strobe, process_at, first_process, met_fault}
use Rattle.sv_flat.specs.Config.{all_made_ready, made_ready}
use Rattle.sv_flat.specs.Effects.{occurred}
use Rattle.sv_flat.specs.Effects.Writes.{variable_over}
use Rattle.sv_flat.specs.Effects.Ends.{all_ended, descendants, ended, joined, living_children}
use Rattle.sv_flat.specs.Effects.Scheduling.{awaiting, children_from, joining, spawned, started, update_scheduled}
use Rattle.sv_built.specs.Built.{IsBuilt, IsBuiltType, IsBuiltProcess}
use Rattle.sv_built.specs.Positions.{stmt_at}
use Rattle.sv_built.specs.Waits.{watches_at}
use Rattle.sv_sound.specs.Sound.{IsPlainSpot, weight_of_running}
use Rattle.sv_sound.specs.After.{store_after, entered_by, entering, turned, waiting_until, recorded, strobe_kept, with_child}
use Rattle.sv_sound.proofs.Weights.{all_at, map_at, one, one_self, once, not_contained}
use Rattle.sv_sound.proofs.Wakes.{change_states}
use Rattle.sv_sound.proofs.Room.{ones, all_count, count_processes}
use Rattle.sv_sound.proofs.Occurs.{print_is, strobe_is, resume_is, turn_is, watch_is, update_is, fail_is, finish_is, enter_is, effect_write_is, variable_write_is, end_initial, end_always, end_always_ff, end_always_comb, end_assign, end_port, end_forked, spawn_is, await_is, disable_is}
use Rattle.sv_sound.proofs.Changes.{found_at}
use Rattle.sv_sound.proofs.Running.{running_known, ended_is}
use Rattle.sv_fork.specs.Tree.{Member, is_awaited, is_awaited_by, member_of, parent_of}
use Rattle.sv_sense.specs.declared.waiter.Waiter.{Waiter}
use Rattle.sv_stack.specs.Effects.{effect_in}
use Rattle.sv_stack.specs.Effects as effects
use Rattle.sv_machine.specs.declared.machine.Machine.{Machine}
use Rattle.sv_machine.specs.declared.machine.Kept.{Kept}
use Rattle.sv_machine.specs.declared.line.Line.{Line}
use Rattle.sv_machine.specs.Log.{record_of, records_of}
use Rattle.sv_machine.specs.Machine.{Picture, of_machine, of_config, Tracks, StandsFor, IsAt, Makes, Does, strobe_of, printing}
use Rattle.sv_machine.specs.Wakes.{side_at}
use Rattle.sv_arena.specs.Made.{entered}
use Rattle.sv_machine.specs.Forks.{ended_forked, forked_in, spawned_in}
use Rattle.sv_machine.specs.Steps.{assigned_in, entering_in, turned_in, WaitsFor, resuming_at, updating_at, EndsAs}
use Rattle.sv_machine.proofs.FamilyLaws.{family_is, family_count, family_few, frames_count, waits_count, made_count}
use Rattle.sv_machine.proofs.EffectLaws.{running_is, state_is, side_of_state, turn_tracks, watch_tracks, resume_tracks, update_tracks, print_tracks, strobe_tracks, finish_tracks, fail_tracks, enter_tracks}
use Rattle.sv_machine.proofs.EndLaws.{end_tracks}

-- ---- the process that runs is one of those that there are, and stands nowhere

module _ (d : Parts) (m : Machine) (h : IsAt d m) where
  pub at_same : of_machine d m ≡ of_config d h.config
  at_same = h.stands.stands.picture

  -- there are no more than may be
  pub tree_few : length m.tree ≤ 2 ^ 18
  tree_few = family_few d m h.config at_same h.stands.sound

  pub few_stand : length (standing m.regions) < 2 ^ 31
  few_stand =
      let c = h.config in
      let a = h.stands.sound.weights ones in
      let s = ap (λ (x : Picture). sum_by ones (standing x.regions)) at_same in
      let k = all_count c.processes in
      let f = h.stands.sound.related.few in
      let e = count_processes (standing m.regions) in
      omega (arith, a, s, k, f, e)

module _ (d : Parts) (m : Machine) (h : IsAt d m) (p : ProcessId) (r : m.running ≡ Some p) where
  running : h.config.running ≡ Some p
  running = running_is d m h.config h.stands p r

  known : p.0 < length h.config.processes
  known = running_known d h.config h.stands.sound p running

  pub runs_known : p.0 < length m.tree
  runs_known = let k = known in let n = family_count d m h.config (at_same d m h) in omega (arith, k, n)

  pub runs_framed : p.0 < length m.processes.items
  runs_framed = let k = known in let n = frames_count d m h.config (at_same d m h) in omega (arith, k, n)

  pub runs_sensed : p.0 < length m.sense.waits
  runs_sensed = let k = known in let n = waits_count d m h.config (at_same d m h) in omega (arith, k, n)

  pub runs_made : p.0 < length m.activations.made
  runs_made = let k = known in let n = made_count d m h.config (at_same d m h) in omega (arith, k, n)

  pub runs_absent : Contains (standing m.regions) p → ⊥
  runs_absent c =
      let a = h.stands.sound.weights (one p) in
      let s = ap (λ (x : Picture). sum_by (one p) (standing x.regions)) (at_same d m h) in
      let o = ap (weight_of_running (one p)) running in
      let e = one_self p in
      let k = once p 0 h.config.processes in
      not_contained p (standing m.regions) (omega (arith, a, s, o, e, k)) c

  -- no process waits for the end of one that the design begins with
  pub runs_alone : (f : Process) → first_process d p ≡ Some f → is_awaited m.tree p ≡ false
  runs_alone f e =
      let c = h.config in
      let q = state_is d m c h.stands p r in
      let s = found_at d c h.stands.sound p f q.0 e q.1 in
      let at : slice_get m.tree p.0 ≡ Some (member_of q.0) =
      ap (λ (ms : List Member). slice_get ms p.0) (family_is d m c (at_same d m h)) ∙ map_at member_of c.processes p.0 q.0 q.1 in
      ap (λ o. is_awaited_by m.tree (parent_of o)) at ∙ ap (is_awaited_by m.tree) s.parent

-- ---- each effect

ready_records : (ps : List ProcessId) (c : Config) → (all_made_ready ps c).records ≡ c.records
ready_records [] c = refl
ready_records (p ∷ ps) c = ready_records ps (made_ready p c)

started_records : (d : Parts) (at : Place) (p : ProcessId) (scope : Option Name) (q : ProcessState) (rs : List RoutineId) (c : Config) → (started d at p scope q rs c).records ≡ c.records
started_records d at p scope q [] c = refl
started_records d at p scope q (r ∷ rs) c = by_room (nat_lt (length c.processes) (2 ^ 18)) (started_records d at p scope q rs (with_child d p q r scope c))
  where
    by_room : (b : Bool) → (started d at p scope q rs (with_child d p q r scope c)).records ≡ c.records
        → (if b then started d at p scope q rs (with_child d p q r scope c) else met_fault fault.Processes at c).records ≡ c.records
    by_room true e = e
    by_room false e = refl

joining_records : (p : ProcessId) (k : JoinKind) (ps : List ProcessId) (c : Config) → (joining p k ps c).records ≡ c.records
joining_records p join.All [] c = refl
joining_records p join.All (q ∷ ps) c = refl
joining_records p join.Any [] c = refl
joining_records p join.Any (q ∷ ps) c = refl
joining_records p join.None ps c = refl
joining_records p join.Wait ps c = refl

awaiting_records : (p : ProcessId) (ps : List ProcessId) (c : Config) → (awaiting p ps c).records ≡ c.records
awaiting_records p [] c = refl
awaiting_records p (q ∷ ps) c = refl

ended_records : (ps : List ProcessId) (c : Config) → (all_ended ps c).records ≡ c.records
ended_records [] c = refl
ended_records (p ∷ ps) c = ended_records ps (ended p c)

-- an effect that prints nothing
silent : (d : Parts) (m n : Machine) (f : Config → Config) (ls : List Line) → Makes d m n f → ((c : Config) → StandsFor d m c → (f c).records ≡ c.records) → Does d m n f ls ls
silent d m n f ls k e = record { makes = k; adds = λ c rs a g. e c a ∙ g }

module _ (d : Parts) (b : IsBuilt d) (at : Place) (p : ProcessId) (m n : Machine) (r : m.running ≡ Some p) (ls : List Line) where
  none : d.clockings ≡ []
  none = b.no_clockings

  pub write_does : (s : Spot) → IsPlainSpot s → (x : Val) → Makes d m n (assigned_in d s x) → Does d m n (occurred d at p (Write s x)) ls ls
  write_does s h x k = silent d m n (occurred d at p (Write s x)) ls
      (λ c a. subst (Tracks d n) (sym (is s h c a)) (k c a))
      (λ c a. ap (λ (e : Config). e.records) (is s h c a) ∙ same s h c)
    where
      is : (s : Spot) → IsPlainSpot s → (c : Config) → StandsFor d m c → occurred d at p (Write s x) c ≡ assigned_in d s x c
      is (Cell o i r) h c a = effect_write_is d none at p c (Cell o i r) tt x
      is Nowhere h c a = effect_write_is d none at p c Nowhere tt x
      is (Variable_of v i r) h c a = variable_write_is d none at p c v i r x
      is s h c a = absurd h

      same : (s : Spot) → IsPlainSpot s → (c : Config) → (assigned_in d s x c).records ≡ c.records
      same (Cell o i r) h c = ap (λ (e : Config). e.records) (change_states d (record c.world { store = store_after (Cell o i r) x c.store }) c)
      same Nowhere h c = ap (λ (e : Config). e.records) (change_states d c.world c)
      same (Variable_of v i r) h c = ap (λ (e : Config). e.records) (change_states d (record c.world { activations = variable_over v i r x c.activations }) c)
      same s h c = absurd h

  pub enter_does : (ts : List DataType) (around : Option Name) → AllByRecursion IsBuiltType ts → n ≡ entering_in at p ts around m
      → Does d m n (occurred d at p (Enter ts around)) ls ls
  enter_does ts around b e = silent d m n (occurred d at p (Enter ts around)) ls
      (λ c a. let q = state_is d m c a p r in
      subst (Tracks d n) (sym (enter_is d none at p c q.0 q.1 ts b around)) (subst (λ (x : Machine). Tracks d x (entering at p q.0 ts around c)) (sym e) (tracks c a q.0 q.1)))
      (λ c a. let q = state_is d m c a p r in ap (λ (e : Config). e.records) (enter_is d none at p c q.0 q.1 ts b around) ∙ same c q.0)
    where
      tracks : (c : Config) → StandsFor d m c → (q : ProcessState) → process_at c p ≡ Some q → Tracks d (entering_in at p ts around m) (entering at p q ts around c)
      tracks c a q is =
          subst (λ (xs : List Activation). Tracks d (entering_in at p ts around m) (if nat_lt (length xs) (2 ^ 24) then entered_by p q ts around c else met_fault fault.Activations at c))
          (ap (λ (x : Picture). x.activations) a.stands.picture) (by_test (nat_lt (length m.activations.activations) (2 ^ 24)))
        where
          by_test : (b : Bool) → Tracks d
              (if b then record m { activations = entered m.activations p around (map first_value ts) } else record m { fault = Some (record { kind = fault.Activations; at = at; time = m.time }) })
              (if b then entered_by p q ts around c else met_fault fault.Activations at c)
          by_test true = enter_tracks d m c a p r q is ts around
          by_test false = fail_tracks d m c a p r q is fault.Activations at

      same : (c : Config) (q : ProcessState) → (entering at p q ts around c).records ≡ c.records
      same c q = by_test (nat_lt (length c.activations) (2 ^ 24))
        where
          by_test : (b : Bool) → (if b then entered_by p q ts around c else met_fault fault.Activations at c).records ≡ c.records
          by_test true = refl
          by_test false = refl

  pub turn_does : (s : Side) → s ≡ side_at m.tree p → n ≡ turned_in p s m → Does d m n (occurred d at p (Suspend Turn_in_slot)) ls ls
  turn_does s e k = silent d m n (occurred d at p (Suspend Turn_in_slot)) ls
      (λ c a. let q = state_is d m c a p r in
      subst (Tracks d n) (sym (turn_is d none at p c q.0 q.1)) (subst (λ (x : Machine). Tracks d x (turned p q.0 c)) (sym k) (turn_tracks d m c a p r q.0 q.1 s e)))
      (λ c a. let q = state_is d m c a p r in ap (λ (e : Config). e.records) (turn_is d none at p c q.0 q.1))

  pub watch_does : (w : Waiter) → WaitsFor d p w m n → Does d m n (occurred d at p (Suspend (Watches (watches_at d w.wait) w.scope))) ls ls
  watch_does w k = silent d m n (occurred d at p (Suspend (Watches (watches_at d w.wait) w.scope))) ls
      (λ c a. let q = state_is d m c a p r in subst (Tracks d n) (sym (watch_is d none at p c q.0 q.1 (watches_at d w.wait) w.scope)) (watch_tracks d m c a p r q.0 q.1 w n k))
      (λ c a. let q = state_is d m c a p r in ap (λ (e : Config). e.records) (watch_is d none at p c q.0 q.1 (watches_at d w.wait) w.scope))

  pub resume_does : (s : Side) (t : ℕ) → s ≡ side_at m.tree p → n ≡ resuming_at p s t m → Does d m n (occurred d at p (Resume_at t)) ls ls
  resume_does s t e k = silent d m n (occurred d at p (Resume_at t)) ls
      (λ c a. let q = state_is d m c a p r in
      subst (Tracks d n) (sym (resume_is d none at p c q.0 q.1 t)) (subst (λ (x : Machine). Tracks d x (waiting_until p q.0 t c)) (sym k) (resume_tracks d m c a p r q.0 q.1 s t e)))
      (λ c a. let q = state_is d m c a p r in ap (λ (e : Config). e.records) (resume_is d none at p c q.0 q.1 t))

  scheduled_records : (s : Side) (t : ℕ) (j : Job) (c : Config) → (update_scheduled s t j c).records ≡ c.records
  scheduled_records s t j c = by_test (t == c.time)
    where
      by_test : (b : Bool) → (if b then record c { regions = job_in (updates_of s) j c.regions } else record c { future = c.future ++ record { time = t; region = updates_of s; due = Work j } ∷ [] }).records ≡ c.records
      by_test true = refl
      by_test false = refl

  pub update_does : (s : Side) (t : ℕ) (j : Job) → s ≡ side_at m.tree p → n ≡ updating_at s t j m → Does d m n (occurred d at p (Update_at t j)) ls ls
  update_does s t j e k = silent d m n (occurred d at p (Update_at t j)) ls
      (λ c a. let q = state_is d m c a p r in
      subst (Tracks d n) (sym (update_is d none at p c q.0 q.1 t j)) (subst (λ (x : Machine). Tracks d x (update_scheduled q.0.side t j c)) (sym k) (update_tracks d m c a p r q.0 q.1 s t j e)))
      (λ c a. let q = state_is d m c a p r in ap (λ (e : Config). e.records) (update_is d none at p c q.0 q.1 t j) ∙ scheduled_records q.0.side t j c)

  pub print_does : (t : List ℕ) (l : Line) (after : List Line) → n ≡ m → after ≡ ls ++ l ∷ [] → l.side ≡ side_at m.tree p → l.text ≡ t → Does d m n (occurred d at p (Print_text t)) ls after
  print_does t l after k more s x = record {
    makes = λ c a. (let q = state_is d m c a p r in
        subst (Tracks d n) (sym (print_is d none at p c q.0 q.1 t)) (subst (λ (y : Machine). Tracks d y (recorded q.0 t c)) (sym k) (print_tracks d m c a p r q.0 q.1 t)));
    adds = λ c rs a g. (let q = state_is d m c a p r in
        ap (λ (e : Config). e.records) (print_is d none at p c q.0 q.1 t)
        ∙ (λ i. g i ++ record { side = sym (s ∙ side_of_state d m c a p r q.0 q.1) i; text = sym x i } ∷ [])
        ∙ append_assoc rs (records_of ls) (record_of l ∷ [])
        ∙ ap (λ (us : List Record). rs ++ us) (sym (ap records_of more ∙ map-append record_of ls (l ∷ []))));
  }

  pub strobe_does : (k : Kept) → n ≡ record m { strobes = n.strobes } → n.strobes.items ≡ m.strobes.items ++ k ∷ [] → k.side ≡ side_at m.tree p → k.at ≡ at
      → Does d m n (occurred d at p (effects.strobe_at (stmt_at d k.position))) ls ls
  strobe_does k e l s f = by_stmt (stmt_at d k.position) refl
    where
      Goal : Effect → Type 0
      Goal x = Does d m n (occurred d at p x) ls ls

      kept : (o : Option Stmt) → stmt_at d k.position ≡ o → (ps : List Piece) (es : List Expr) → ((g : Side) → strobe_of g k.at o ≡ record { side = g; at = k.at; pieces = ps; values = es }) → Goal (Keep_print print.Strobe ps es)
      kept o g ps es x = silent d m n (occurred d at p (Keep_print print.Strobe ps es)) ls
          (λ c a. let q = state_is d m c a p r in
          subst (Tracks d n)
          (ap (λ (y : Strobe). strobe_kept y c) ((λ i. record (strobe_of k.side k.at (g i)) { side = q.0.side }) ∙ ap (λ (y : Strobe). record y { side = q.0.side }) (x k.side) ∙ (λ i. record { side = q.0.side; at = f i; pieces = ps; values = es }))
          ∙ sym (strobe_is d none at p c q.0 q.1 ps es))
          (strobe_tracks d m c a p r q.0 q.1 n k e l s))
          (λ c a. let q = state_is d m c a p r in ap (λ (e : Config). e.records) (strobe_is d none at p c q.0 q.1 ps es))

      by_form : (x : Stmt) (y : Form) → stmt_at d k.position ≡ Some x → x.form ≡ y → Goal (effects.strobe_of y)
      by_form x (form.Print z ps es) g i = kept (Some x) g ps es (λ h. ap (printing h k.at) i)
      by_form x y g i = kept (Some x) g [] [] (λ h. ap (printing h k.at) i)

      by_stmt : (o : Option Stmt) → stmt_at d k.position ≡ o → Goal (effects.strobe_at (stmt_at d k.position))
      by_stmt None g = subst (λ o. Goal (effects.strobe_at o)) (sym g) (kept None g [] [] (λ h. refl))
      by_stmt (Some x) g = subst (λ o. Goal (effects.strobe_at o)) (sym g) (by_form x x.form g refl)

  pub finish_does : n ≡ record m { finishing = true } → Does d m n (occurred d at p Finish_run) ls ls
  finish_does k = silent d m n (occurred d at p Finish_run) ls
      (λ c a. let q = state_is d m c a p r in
      subst (Tracks d n) (sym (finish_is d none at p c)) (subst (λ (x : Machine). Tracks d x (record c { finishing = true })) (sym k) (finish_tracks d m c a p r q.0 q.1)))
      (λ c a. ap (λ (e : Config). e.records) (finish_is d none at p c))

  pub fail_does : (k : FaultKind) → n ≡ record m { fault = Some (record { kind = k; at = at; time = m.time }) } → Does d m n (occurred d at p (Fail k)) ls ls
  fail_does k e = silent d m n (occurred d at p (Fail k)) ls
      (λ c a. let q = state_is d m c a p r in
      subst (Tracks d n) (sym (fail_is d none at p c k)) (subst (λ (x : Machine). Tracks d x (met_fault k at c)) (sym e) (fail_tracks d m c a p r q.0 q.1 k at)))
      (λ c a. ap (λ (e : Config). e.records) (fail_is d none at p c k))

  -- ---- forks, `wait fork` and `disable fork`

  pub spawn_does : (rs : List RoutineId) (scope : Option Name) (k : JoinKind) → Makes d m n (spawned_in d at p rs scope k) → Does d m n (occurred d at p (Spawn rs scope k)) ls ls
  spawn_does rs scope k g = silent d m n (occurred d at p (Spawn rs scope k)) ls
      (λ c a. let q = state_is d m c a p r in
      subst (Tracks d n) (sym (spawn_is d none at p c q.0 q.1 rs scope k ∙ sym (ap (λ o. spawned d at p rs scope k o c) q.1))) (g c a))
      (λ c a. let q = state_is d m c a p r in
      ap (λ (e : Config). e.records) (spawn_is d none at p c q.0 q.1 rs scope k)
      ∙ joining_records p k (children_from (length c.processes) rs) (started d at p scope q.0 rs c) ∙ started_records d at p scope q.0 rs c)

  pub fork_does : (o : Option Stmt) (scope : Option Name) → Makes d m n (forked_in d at p (effects.spawn_at o scope)) → Does d m n (occurred d at p (effects.spawn_at o scope)) ls ls
  fork_does None scope g = spawn_does [] scope join.None g
  fork_does (Some s) scope g = by_form s.form g
    where
      by_form : (f : Form) → Makes d m n (forked_in d at p (effects.spawn_of f scope)) → Does d m n (occurred d at p (effects.spawn_of f scope)) ls ls
      by_form (form.Fork ts initializers children k) g = spawn_does children scope k g
      by_form f g = spawn_does [] scope join.None g

  pub await_does : Makes d m n (λ c. awaiting p (living_children c p) c) → Does d m n (occurred d at p Await_children) ls ls
  await_does g = silent d m n (occurred d at p Await_children) ls
      (λ c a. subst (Tracks d n) (sym (await_is d none at p c)) (g c a))
      (λ c a. ap (λ (e : Config). e.records) (await_is d none at p c) ∙ awaiting_records p (living_children c p) c)

  pub disable_does : Makes d m n (λ c. all_ended (descendants c p) c) → Does d m n (occurred d at p End_descendants) ls ls
  disable_does g = silent d m n (occurred d at p End_descendants) ls
      (λ c a. subst (Tracks d n) (sym (disable_is d none at p c)) (g c a))
      (λ c a. ap (λ (e : Config). e.records) (disable_is d none at p c) ∙ ended_records (descendants c p) c)

  -- ---- the end of a body

  pub end_does : ((f : Process) → first_process d p ≡ Some f → EndsAs d f p f.kind m n) → (first_process d p ≡ None → Makes d m n (ended_forked p)) → Does d m n (occurred d at p End) ls ls
  end_does k g = by_first (first_process d p) refl
    where
      first : (f : Process) → first_process d p ≡ Some f → Does d m n (occurred d at p End) ls ls
      first f e =
          let of_module : f.program ≡ None = (all_at IsBuiltProcess d.processes p.0 f e b.each_process).of_module in
          silent d m n (occurred d at p End) ls
          (λ c a. let q = state_is d m c a p r in end_tracks d b at p m c a r q.0 q.1 n f e of_module (k f e))
          (λ c a. let q = state_is d m c a p r in end_records c a q.0 q.1 f e of_module f.kind refl)
        where
          end_records : (c : Config) → StandsFor d m c → (q : ProcessState) → process_at c p ≡ Some q → (f : Process) → first_process d p ≡ Some f → f.program ≡ None
              → (k : ProcessKind) → f.kind ≡ k → (occurred d at p End c).records ≡ c.records
          end_records c a q is f e g kind.Initial k = ap (λ (e : Config). e.records) (end_initial d none at p c q is f e k g ∙ ended_is d c a.sound p (running_is d m c a p r) q is)
          end_records c a q is f e g kind.Always k = ap (λ (e : Config). e.records) (end_always d none at p c q is f e k)
          end_records c a q is f e g kind.AlwaysFf k = ap (λ (e : Config). e.records) (end_always_ff d none at p c q is f e k)
          end_records c a q is f e g kind.AlwaysComb k = ap (λ (e : Config). e.records) (end_always_comb d none at p c q is f e k)
          end_records c a q is f e g kind.Assign k = ap (λ (e : Config). e.records) (end_assign d none at p c q is f e k)
          end_records c a q is f e g kind.Port k = ap (λ (e : Config). e.records) (end_port d none at p c q is f e k)

      by_first : (o : Option Process) → first_process d p ≡ o → Does d m n (occurred d at p End) ls ls
      by_first (Some f) e = first f e
      by_first None e = silent d m n (occurred d at p End) ls
          (λ c a. subst (Tracks d n) (sym (end_forked d none at p c e)) (g e c a))
          (λ c a. ap (λ (x : Config). x.records) (end_forked d none at p c e) ∙ ready_records (joined (ended p c)) (ended p c))
