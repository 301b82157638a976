-- What each effect makes of the machine and of the configuration for which it stands.
use Rattle.std.proofs.Common.{ℕ, zero, suc, ◌≡◌, ◌+◌, Bool, true, false, List, [], ◌∷◌, ◌++◌, Option, None, Some, refl, ap, subst, sym, ◌∙◌, arith, map, slice_get, slice_set}
use Rattle.std.specs.Prelude.{◌==◌, if◌then◌else◌, unwrap_or, slice_index_or}
use Rattle.std.proofs.lemmas.Option.{unwrap_or-slice_get}
use Rattle.std.proofs.lemmas.List.{map-append}
use Rattle.sv_value.specs.declared.number.ProcessId.{ProcessId}
use Rattle.sv_value.specs.declared.place.Place.{Place}
use Rattle.sv_value.specs.declared.place.FaultKind.{FaultKind}
use Rattle.sv_value.specs.declared.schedule.Side.{Side}
use Rattle.sv_value.specs.declared.schedule.Job.{Job}
use Rattle.sv_value.specs.declared.schedule.Due.TheVariants.{Resume, Work}
use Rattle.sv_value.specs.Regions.{ready_in, job_in, front_of, idle_of, updates_of}
use Rattle.sv_flat.specs.declared.process.Process.{Process}
use Rattle.sv_flat.specs.declared.stmt.Stmt.{Stmt}
use Rattle.sv_flat.specs.declared.stmt.Form.{Form}
use Rattle.sv_flat.specs.declared.stmt.Form.TheVariants as form
use Rattle.sv_flat.specs.declared.process.Watch.{Watch}
use Rattle.sv_flat.specs.declared.object.DataType.{DataType}
use Rattle.sv_flat.specs.State.{Name, Activation, first_value}
use Rattle.sv_flat.specs.declared.design.Parts.{Parts}
use Rattle.sv_flat.specs.Process
use Rattle.sv_flat.specs.Process.{ProcessState, Status, Ready, Running, Waiting, Moment, Turn_in_slot, Watches, Children, Queue, Start, Todo, Effect, Remain, Write, Suspend, Resume_at, Update_at, Print_text, Keep_print, Finish_run, End, Fail, body_in}
use Rattle.sv_flat.specs.Config.{Config, process_at, met_fault}
use Rattle.sv_flat.specs.Effects.Ends.{is_ended}
use Rattle.sv_flat.specs.Effects.Scheduling.{update_scheduled}
use Rattle.sv_built.specs.declared.wait.Wait.TheVariants as wait
use Rattle.sv_built.specs.Positions.{stmt_at}
use Rattle.sv_built.specs.Waits.{watches_at}
use Rattle.sv_sound.specs.Sound.{is_parked}
use Rattle.sv_sound.specs.After.{entered_by, with_state, remaining, waiting_until, turned, watching, over, recorded, strobe_kept}
use Rattle.sv_sound.proofs.Weights.{there, map_at, map_set_same}
use Rattle.sv_sound.proofs.Running.{running_known, runs_calm}
use Rattle.sv_fork.specs.Tree.{Member, ended_in, is_over_in, join_of, member_of, member_test}
use Rattle.sv_fork.specs.Tree as tree
use Rattle.sv_stack.specs.Frames.{todos_of}
use Rattle.sv_sense.specs.declared.waiter.Waiter.{Waiter}
use Rattle.sv_sense.specs.Sensed.{Covers}
use Rattle.sv_machine.specs.declared.machine.Machine.{Machine}
use Rattle.sv_machine.specs.declared.machine.Kept.{Kept}
use Rattle.sv_machine.specs.Waits.{awaited, awaited_at, awaited_by}
use Rattle.sv_machine.specs.Machine.{Picture, of_machine, of_config, IsAlive, Tracks, StandsFor, rest_of, was_taken, made_of, printing, strobe_of, strobe_at}
use Rattle.sv_machine.specs.Wakes.{side_at}
use Rattle.sv_arena.specs.Made.{entered}
use Rattle.sv_machine.specs.Steps.{turned_in, WaitsFor, resuming_at, updating_at, Remains, IsOver, WaitsAgain}
use Rattle.sv_machine.proofs.FamilyLaws.{family_is, side_is}
use Rattle.sv_machine.proofs.WakeLaws.{pending_by_taken}

-- ---- lists

pub map_set : {A B : Type 0} (f : A → B) (xs : List A) (i : ℕ) (x : A) → map f (slice_set xs i x) ≡ slice_set (map f xs) i (f x)
map_set f [] i x = refl
map_set f (y ∷ xs) zero x = refl
map_set f (y ∷ xs) (suc i) x = λ j. f y ∷ map_set f xs i x j

pub set_same : {A : Type 0} (xs : List A) (i : ℕ) (x : A) → slice_get xs i ≡ Some x → slice_set xs i x ≡ xs
set_same [] i x e = refl
set_same (y ∷ xs) zero x e = (let k : y ≡ x = cc in λ j. sym k j ∷ xs)
set_same (y ∷ xs) (suc i) x e = λ j. y ∷ set_same xs i x e j

pub not_awaited : (s : Status) → is_parked s ≡ false → awaited s ≡ None
not_awaited Ready h = refl
not_awaited Running h = refl
not_awaited Process.Ended h = refl
not_awaited (Waiting Moment) h = refl
not_awaited (Waiting Turn_in_slot) h = refl
not_awaited (Waiting (Watches ws scope)) h = absurd (cc)
not_awaited (Waiting (Children all ps)) h = refl
not_awaited (Waiting Queue) h = refl
not_awaited (Waiting Start) h = refl

pub not_joined : (s : Status) → is_parked s ≡ false → join_of s ≡ None
not_joined Ready h = refl
not_joined Running h = refl
not_joined Process.Ended h = refl
not_joined (Waiting Moment) h = refl
not_joined (Waiting Turn_in_slot) h = refl
not_joined (Waiting (Watches ws scope)) h = refl
not_joined (Waiting (Children all ps)) h = absurd (cc)
not_joined (Waiting Queue) h = refl
not_joined (Waiting Start) h = refl

-- ---- the process that runs

module _ (d : Parts) (m : Machine) (c : Config) (h : StandsFor d m c) (p : ProcessId) (r : m.running ≡ Some p) where
  same : of_machine d m ≡ of_config d c
  same = h.stands.picture

  pub running_is : c.running ≡ Some p
  running_is = sym (ap (λ (x : Picture). x.running) same) ∙ r

  pub state_is : (q : ProcessState) × (process_at c p ≡ Some q)
  state_is = there c.processes p.0 (running_known d c h.sound p running_is)

  module _ (q : ProcessState) (is : process_at c p ≡ Some q) where
    calm : awaited_by q ≡ None
    calm = not_awaited q.latest (runs_calm d c h.sound p running_is q is)

    pub side_of_state : side_at m.tree p ≡ q.side
    side_of_state = side_is d m c same p q is

    -- it is not over, and waits for no children
    pub lives : is_ended q.latest ≡ false
    lives =
        sym (ap (λ (ms : List Member). member_test (λ x. x.over) (slice_get ms p.0)) (family_is d m c same) ∙ ap (member_test (λ x. x.over)) (map_at member_of c.processes p.0 q is))
        ∙ alive m.running r h.stands.alive
      where
        alive : (o : Option ProcessId) → o ≡ Some p → IsAlive m.tree o → is_over_in m.tree p ≡ false
        alive None e k = absurd (cc)
        alive (Some x) e k = let z : x.0 ≡ p.0 = ap (λ (y : ProcessId). y.0) (let y : x ≡ p = cc in y) in ap (λ i. is_over_in m.tree (record { 0 = i })) (sym z) ∙ k

    pub waits_for_none : join_of q.latest ≡ None
    waits_for_none = not_joined q.latest (runs_calm d c h.sound p running_is q is)

    -- the same for the tree in another state
    member_stays : (v : ProcessState) → v.side ≡ q.side → v.parent ≡ q.parent → is_ended v.latest ≡ false → join_of v.latest ≡ None → member_of v ≡ member_of q
    member_stays v a b e f = λ i. record { side = a i; parent = b i; over = (e ∙ sym lives) i; join = (f ∙ sym waits_for_none) i }

    pub family_same : (v : ProcessState) → member_of v ≡ member_of q → slice_set (map member_of c.processes) p.0 (member_of v) ≡ map member_of c.processes
    family_same v e = ap (slice_set (map member_of c.processes) p.0) e ∙ set_same (map member_of c.processes) p.0 (member_of q) (map_at member_of c.processes p.0 q is)

    -- the process in another state
    pub state_picture : (v : ProcessState) → v.was_taken ≡ q.was_taken → v.made ≡ q.made → of_config d (with_state p v c)
        ≡ record (of_config d c) { family = slice_set (map member_of c.processes) p.0 (member_of v); remaining = slice_set (map rest_of c.processes) p.0 v.rest; waiting = slice_set (map awaited_by c.processes) p.0 (awaited_by v) }
    state_picture v e f =
        let k = map_set_same made_of c.processes p.0 q v is f in
        let t = map_set_same was_taken c.processes p.0 q v is e in
        let n = pending_by_taken d.processes c.processes (slice_set c.processes p.0 v) t in
        λ i. record (of_config d c) {
          family = map_set member_of c.processes p.0 v i;
          made = k i;
          remaining = map_set rest_of c.processes p.0 v i;
          waiting = map_set awaited_by c.processes p.0 v i;
          taken = t i;
          starters = n i;
        }

    -- in which it is the same for the tree
    pub plain_picture : (v : ProcessState) → v.was_taken ≡ q.was_taken → v.made ≡ q.made → member_of v ≡ member_of q → of_config d (with_state p v c)
        ≡ record (of_config d c) { remaining = slice_set (map rest_of c.processes) p.0 v.rest; waiting = slice_set (map awaited_by c.processes) p.0 (awaited_by v) }
    plain_picture v e f k =
        state_picture v e f
        ∙ (λ i. record (of_config d c) { family = family_same v k i; remaining = slice_set (map rest_of c.processes) p.0 v.rest; waiting = slice_set (map awaited_by c.processes) p.0 (awaited_by v) })

    pub rest_stays : slice_set (map rest_of c.processes) p.0 q.rest ≡ map rest_of c.processes
    rest_stays = set_same (map rest_of c.processes) p.0 q.rest (map_at rest_of c.processes p.0 q is)

    pub waits_stay : slice_set (map awaited_by c.processes) p.0 None ≡ map awaited_by c.processes
    waits_stay = ap (slice_set (map awaited_by c.processes) p.0) (sym calm) ∙ set_same (map awaited_by c.processes) p.0 (awaited_by q) (map_at awaited_by c.processes p.0 q is)

    -- a state that differs in nothing that is kept
    pub still_picture : (s : Status) → awaited s ≡ None → is_ended s ≡ false → join_of s ≡ None → of_config d (with_state p (record q { latest = s }) c) ≡ of_config d c
    still_picture s e f g =
        let v : ProcessState = record q { latest = s } in
        plain_picture v refl refl (member_stays v refl refl f g)
        ∙ (λ i. record (of_config d c) { remaining = rest_stays i; waiting = slice_set (map awaited_by c.processes) p.0 (e i) })
        ∙ (λ i. record (of_config d c) { waiting = waits_stay i })

    -- ---- waits

    pub turn_tracks : (s : Side) → s ≡ side_at m.tree p → Tracks d (turned_in p s m) (turned p q c)
    turn_tracks s e =
        let v : ProcessState = record q { latest = Waiting Turn_in_slot } in
        let k : s ≡ q.side = e ∙ side_of_state in
        record {
          time = ap (λ (x : Picture). x.time) same;
          fault = h.fault;
          going = λ g. record {
            picture = (λ i. record (same i) { running = None; regions = ready_in (idle_of (k i)) p (same i).regions })
                ∙ (λ i. record (sym (still_picture (Waiting Turn_in_slot) refl refl refl) i) { running = None; regions = ready_in (idle_of q.side) p c.regions });
            covers = h.stands.covers;
            alive = tt;
            last = h.stands.last;
          };
        }

    pub watch_tracks : (w : Waiter) (n : Machine) → WaitsFor d p w m n → Tracks d n (watching p q (watches_at d w.wait) w.scope c)
    watch_tracks w n k =
        let v : ProcessState = record q { latest = Waiting (Watches (watches_at d w.wait) w.scope) } in
        record {
          time = ap (λ (x : Machine). x.time) k.is ∙ ap (λ (x : Picture). x.time) same;
          fault = ap (λ (x : Machine). x.fault) k.is ∙ h.fault;
          going = λ g. record {
            picture = ap (of_machine d) k.is
                ∙ (λ i. record (of_machine d m) { running = None; waiting = map (awaited_at d) (k.waits i) })
                ∙ (λ i. record (of_machine d m) { running = None; waiting = map_set (awaited_at d) m.sense.waits p.0 (Some w) i })
                ∙ (λ i. record (same i) { running = None; waiting = slice_set (same i).waiting p.0 (awaited_at d (Some w)) })
                ∙ (λ i. record (of_config d c) { running = None; remaining = rest_stays' i; waiting = slice_set (map awaited_by c.processes) p.0 (awaited_by v) })
                ∙ (λ i. record (sym (plain_picture v refl refl (member_stays v refl refl refl refl)) i) { running = None });
            covers = k.covers;
            alive = subst (λ (x : Machine). IsAlive x.tree x.running) (sym k.is) tt;
            last = (let a = ap (λ (x : Machine). x.wheel.last) k.is in let b = ap (λ (x : Machine). x.time) k.is in let l = h.stands.last in omega (arith, a, b, l));
          };
        }
      where
        rest_stays' : map rest_of c.processes ≡ slice_set (map rest_of c.processes) p.0 q.rest
        rest_stays' = sym rest_stays

    pub resume_tracks : (s : Side) (t : ℕ) → s ≡ side_at m.tree p → Tracks d (resuming_at p s t m) (waiting_until p q t c)
    resume_tracks s t e =
        let k : s ≡ q.side = e ∙ side_of_state in
        record {
          time = ap (λ (x : Picture). x.time) same;
          fault = h.fault;
          going = λ g. record {
            picture = (λ i. record (same i) { running = None; future = (same i).future ++ record { time = t; region = front_of (k i); due = Resume p } ∷ [] })
                ∙ (λ i. record (sym (still_picture (Waiting Moment) refl refl refl) i) { running = None; future = c.future ++ record { time = t; region = front_of q.side; due = Resume p } ∷ [] });
            covers = h.stands.covers;
            alive = tt;
            last = h.stands.last;
          };
        }

    -- ---- the end of a body

    family_ends : ended_in p (map member_of c.processes) ≡ slice_set (map member_of c.processes) p.0 (member_of (record q { latest = Process.Ended; rest = [] }))
    family_ends = ap (λ o. tree.changed_in o (λ x. record x { over = true; join = None }) p (map member_of c.processes)) (map_at member_of c.processes p.0 q is)

    pub over_tracks : (n : Machine) → IsOver d p m n → Tracks d n (over p q c)
    over_tracks n k =
        let v : ProcessState = record q { latest = Process.Ended; rest = [] } in
        record {
          time = ap (λ (x : Machine). x.time) k.is ∙ ap (λ (x : Picture). x.time) same;
          fault = ap (λ (x : Machine). x.fault) k.is ∙ h.fault;
          going = λ g. record {
            picture = ap (of_machine d) k.is
                ∙ (λ i. record (of_machine d m) { running = None; family = ended_in p m.tree; remaining = k.left.remaining i })
                ∙ (λ i. record (same i) { running = None; family = ended_in p (same i).family; remaining = slice_set (same i).remaining p.0 [] })
                ∙ (λ i. record (of_config d c) { running = None; family = family_ends i; remaining = slice_set (map rest_of c.processes) p.0 []; waiting = sym waits_stay i })
                ∙ (λ i. record (sym (state_picture v refl refl) i) { running = None });
            alive = subst (λ (x : Machine). IsAlive x.tree x.running) (sym k.is) tt;
            covers = subst (Covers d) (sym (ap (λ (x : Machine). x.sense) k.is)) h.stands.covers;
            last = (let a = ap (λ (x : Machine). x.wheel.last) k.is in let b = ap (λ (x : Machine). x.time) k.is in let l = h.stands.last in omega (arith, a, b, l));
          };
        }

    pub remain_tracks : (rest : List Todo) (n : Machine) → n ≡ record m { processes = n.processes } → Remains d p rest m n → Tracks d n (remaining p q rest c)
    remain_tracks rest n k l =
        let v : ProcessState = record q { rest = rest } in
        record {
          time = ap (λ (x : Machine). x.time) k ∙ ap (λ (x : Picture). x.time) same;
          fault = ap (λ (x : Machine). x.fault) k ∙ h.fault;
          going = λ g. record {
            picture = ap (of_machine d) k
                ∙ (λ i. record (of_machine d m) { remaining = l.remaining i })
                ∙ (λ i. record (same i) { remaining = slice_set (same i).remaining p.0 rest })
                ∙ (λ i. record (of_config d c) { remaining = slice_set (map rest_of c.processes) p.0 rest; waiting = sym (waits_still) i })
                ∙ sym (plain_picture v refl refl refl);
            alive = subst (λ (x : Machine). IsAlive x.tree x.running) (sym k) h.stands.alive;
            covers = subst (Covers d) (sym (ap (λ (x : Machine). x.sense) k)) h.stands.covers;
            last = (let a = ap (λ (x : Machine). x.wheel.last) k in let b = ap (λ (x : Machine). x.time) k in let l = h.stands.last in omega (arith, a, b, l));
          };
        }
      where
        waits_still : slice_set (map awaited_by c.processes) p.0 (awaited_by q) ≡ map awaited_by c.processes
        waits_still = set_same (map awaited_by c.processes) p.0 (awaited_by q) (map_at awaited_by c.processes p.0 q is)

    pub again_tracks : (f : Process) (ws : List Watch) (n : Machine) → watches_at d (wait.Watched p) ≡ ws → WaitsAgain d f p m n
        → Tracks d n (watching p (record q { rest = body_in d f.body None }) ws None c)
    again_tracks f ws n e k =
        let v : ProcessState = record q { rest = body_in d f.body None; latest = Waiting (Watches ws None) } in
        record {
          time = ap (λ (x : Machine). x.time) k.is ∙ ap (λ (x : Picture). x.time) same;
          fault = ap (λ (x : Machine). x.fault) k.is ∙ h.fault;
          going = λ g. record {
            picture = ap (of_machine d) k.is
                ∙ (λ i. record (of_machine d m) { running = None; remaining = k.left.remaining i; waiting = map (awaited_at d) (k.waits i) })
                ∙ (λ i. record (of_machine d m) { running = None; remaining = slice_set (map (todos_of d) m.processes.items) p.0 (body_in d f.body None); waiting = map_set (awaited_at d) m.sense.waits p.0 (Some (record { wait = wait.Watched p; scope = None })) i })
                ∙ (λ i. record (same i) { running = None; remaining = slice_set (same i).remaining p.0 (body_in d f.body None); waiting = slice_set (same i).waiting p.0 (Some (record { watches = e i; scope = None })) })
                ∙ (λ i. record (sym (plain_picture v refl refl (member_stays v refl refl refl refl)) i) { running = None });
            covers = k.covers;
            alive = subst (λ (x : Machine). IsAlive x.tree x.running) (sym k.is) tt;
            last = (let a = ap (λ (x : Machine). x.wheel.last) k.is in let b = ap (λ (x : Machine). x.time) k.is in let l = h.stands.last in omega (arith, a, b, l));
          };
        }

    -- ---- activations

    -- how many activations the process made
    pub made_is : slice_index_or (map made_of c.processes) p.0 0 ≡ q.made
    made_is = sym (unwrap_or-slice_get (map made_of c.processes) p.0 0) ∙ ap (λ (o : Option ℕ). unwrap_or o 0) (map_at made_of c.processes p.0 q is)

    entered_picture : (ts : List DataType) (around : Option Name) → of_config d (entered_by p q ts around c)
        ≡ record (of_config d c) {
          activations = c.activations ++ record { name = record { process = p; place = q.made }; around = around; values = map first_value ts } ∷ [];
          made = slice_set (map made_of c.processes) p.0 (q.made + 1);
        }
    entered_picture ts around =
        let v : ProcessState = record q { made = q.made + 1 } in
        let a = map_set_same rest_of c.processes p.0 q v is refl in
        let w = map_set_same awaited_by c.processes p.0 q v is refl in
        let t = map_set_same was_taken c.processes p.0 q v is refl in
        let n = pending_by_taken d.processes c.processes (slice_set c.processes p.0 v) t in
        let f = map_set_same member_of c.processes p.0 q v is refl in
        λ i. record (of_config d (entered_by p q ts around c)) {
          family = f i;
          made = map_set made_of c.processes p.0 v i;
          remaining = a i;
          waiting = w i;
          taken = t i;
          starters = n i;
        }

    pub enter_tracks : (ts : List DataType) (around : Option Name)
        → Tracks d (record m { activations = entered m.activations p around (map first_value ts) }) (entered_by p q ts around c)
    enter_tracks ts around =
        let one : ℕ → Activation = λ k. record { name = record { process = p; place = k }; around = around; values = map first_value ts } in
        record {
          time = ap (λ (x : Picture). x.time) same;
          fault = h.fault;
          going = λ g. record {
            picture = (λ i. record (same i) {
              activations = (same i).activations ++ one (slice_index_or (same i).made p.0 0) ∷ [];
              made = slice_set (same i).made p.0 (slice_index_or (same i).made p.0 0 + 1);
            })
                ∙ (λ i. record (of_config d c) { activations = c.activations ++ one (made_is i) ∷ []; made = slice_set (map made_of c.processes) p.0 (made_is i + 1) })
                ∙ sym (entered_picture ts around);
            covers = h.stands.covers;
            alive = h.stands.alive;
            last = h.stands.last;
          };
        }

    -- ---- what is scheduled

    pub update_tracks : (s : Side) (t : ℕ) (j : Job) → s ≡ side_at m.tree p → Tracks d (updating_at s t j m) (update_scheduled q.side t j c)
    update_tracks s t j e = subst (λ (x : Side). Tracks d (updating_at s t j m) (update_scheduled x t j c)) (e ∙ side_of_state) by_moment
      where
        moment : (t == m.time) ≡ (t == c.time)
        moment = ap (λ (x : Picture). t == x.time) same

        time_is : m.time ≡ c.time
        time_is = ap (λ (x : Picture). x.time) same

        by_test : (b : Bool) → Tracks d
            (if b then record m { regions = job_in (updates_of s) j m.regions } else record m { wheel = record m.wheel { events = m.wheel.events ++ record { time = t; region = updates_of s; due = Work j } ∷ [] } })
            (if b then record c { regions = job_in (updates_of s) j c.regions } else record c { future = c.future ++ record { time = t; region = updates_of s; due = Work j } ∷ [] })
        by_test true = record {
          time = time_is;
          fault = h.fault;
          going = λ g. record {
            picture = λ i. record (same i) { regions = job_in (updates_of s) j (same i).regions };
            covers = h.stands.covers;
            alive = h.stands.alive;
            last = h.stands.last;
          };
        }
        by_test false = record {
          time = time_is;
          fault = h.fault;
          going = λ g. record {
            picture = λ i. record (same i) { future = (same i).future ++ record { time = t; region = updates_of s; due = Work j } ∷ [] };
            covers = h.stands.covers;
            alive = h.stands.alive;
            last = h.stands.last;
          };
        }

        by_moment : Tracks d (updating_at s t j m) (update_scheduled s t j c)
        by_moment = subst (λ (b : Bool). Tracks d (updating_at s t j m)
            (if b then record c { regions = job_in (updates_of s) j c.regions } else record c { future = c.future ++ record { time = t; region = updates_of s; due = Work j } ∷ [] })) moment (by_test (t == m.time))

    -- ---- what is printed, the end of a run, and faults

    pub print_tracks : (t : List ℕ) → Tracks d m (recorded q t c)
    print_tracks t = record { time = ap (λ (x : Picture). x.time) same; fault = h.fault; going = λ g. record { picture = same; covers = h.stands.covers; alive = h.stands.alive; last = h.stands.last } }

    pub strobe_tracks : (n : Machine) (k : Kept) → n ≡ record m { strobes = n.strobes } → n.strobes.items ≡ m.strobes.items ++ k ∷ [] → k.side ≡ side_at m.tree p
        → Tracks d n (strobe_kept (record (strobe_at d k) { side = q.side }) c)
    strobe_tracks n k e l s =
        record {
          time = ap (λ (x : Machine). x.time) e ∙ ap (λ (x : Picture). x.time) same;
          fault = ap (λ (x : Machine). x.fault) e ∙ h.fault;
          going = λ g. record {
            picture = ap (of_machine d) e
                ∙ (λ i. record (of_machine d m) { strobes = map (strobe_at d) (l i) })
                ∙ (λ i. record (of_machine d m) { strobes = map-append (strobe_at d) m.strobes.items (k ∷ []) i })
                ∙ (λ i. record (same i) { strobes = (same i).strobes ++ sided i ∷ [] });
            alive = subst (λ (x : Machine). IsAlive x.tree x.running) (sym e) h.stands.alive;
            covers = subst (Covers d) (sym (ap (λ (x : Machine). x.sense) e)) h.stands.covers;
            last = (let a = ap (λ (x : Machine). x.wheel.last) e in let b = ap (λ (x : Machine). x.time) e in let l = h.stands.last in omega (arith, a, b, l));
          };
        }
      where
        sided : strobe_at d k ≡ record (strobe_at d k) { side = q.side }
        sided = by_stmt (stmt_at d k.position)
          where
            side : k.side ≡ q.side
            side = s ∙ side_of_state

            by_form : (f : Form) → printing k.side k.at f ≡ record (printing k.side k.at f) { side = q.side }
            by_form (form.Print x ps es) = λ i. record { side = side i; at = k.at; pieces = ps; values = es }
            by_form f = λ i. record (printing k.side k.at f) { side = side i }

            by_stmt : (o : Option Stmt) → strobe_of k.side k.at o ≡ record (strobe_of k.side k.at o) { side = q.side }
            by_stmt None = λ i. record { side = side i; at = k.at; pieces = []; values = [] }
            by_stmt (Some x) = by_form x.form

    pub finish_tracks : Tracks d (record m { finishing = true }) (record c { finishing = true })
    finish_tracks = record {
      time = ap (λ (x : Picture). x.time) same;
      fault = h.fault;
      going = λ g. record { picture = λ i. record (same i) { finishing = true }; covers = h.stands.covers; alive = h.stands.alive; last = h.stands.last };
    }

    pub fail_tracks : (k : FaultKind) (at : Place) → Tracks d (record m { fault = Some (record { kind = k; at = at; time = m.time }) }) (met_fault k at c)
    fail_tracks k at = record {
      time = ap (λ (x : Picture). x.time) same;
      fault = ap (λ (x : Picture). Some (record { kind = k; at = at; time = x.time })) same;
      going = λ g. absurd (cc);
    }
