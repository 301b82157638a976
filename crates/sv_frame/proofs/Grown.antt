-- Each step leaves what the processes have still to run in the bodies of their sides, also where a fork makes processes.
use Rattle.std.proofs.Common.{ℕ, ◌≡◌, List, [], ◌∷◌, ◌++◌, Option, None, Some, Bool, true, false, cond, refl, ap, subst, sym, ◌∙◌, inl, inr, length, slice_get}
use Rattle.std.specs.Prelude.{◌⊎◌, unwrap_or, nat_lt, ◌^◌}
use Rattle.std.specs.List.{AllByRecursion}
use Rattle.std.proofs.lemmas.List.{append-nil, append_assoc}
use Rattle.sv_value.specs.declared.number.ProcessId.{ProcessId}
use Rattle.sv_value.specs.declared.number.RoutineId.{RoutineId}
use Rattle.sv_value.specs.declared.place.Place.{Place}
use Rattle.sv_value.specs.declared.place.FaultKind.TheVariants as fault
use Rattle.sv_value.specs.declared.schedule.Side.{Side}
use Rattle.sv_value.specs.declared.schedule.Side.TheVariants.{Active, Reactive}
use Rattle.sv_value.specs.Regions.{pickable}
use Rattle.sv_flat.specs.declared.stmt.JoinKind.{JoinKind}
use Rattle.sv_flat.specs.declared.stmt.JoinKind.TheVariants as join
use Rattle.sv_flat.specs.declared.design.Parts.{Parts}
use Rattle.sv_flat.specs.State.{Name}
use Rattle.sv_flat.specs.Process.{ProcessState, Effect, Spawn, Children, no_place}
use Rattle.sv_flat.specs.Config.{Config, process_at, with_process, met_fault, seen}
use Rattle.sv_flat.specs.Micro.{micro, place_of_step}
use Rattle.sv_flat.specs.Effects.{applied, woken_by_effect, occurred, all_occurred, may_go_on}
use Rattle.sv_flat.specs.Effects.Scheduling.{child_of, children_from, started, joining, spawned}
use Rattle.sv_flat.specs.Steps.{Kind, Run_statement, after, effect, counted, numbers_used, side_after, statement_ran, ran_state, front}
use Rattle.sv_sound.specs.After.{with_child}
use Rattle.sv_sound.proofs.Related.{found_more}
use Rattle.sv_frame.proofs.Paths.{IsRoutineOf}
use Rattle.sv_frame.proofs.Scopes.{sides, IsScope}
use Rattle.sv_frame.proofs.MicroHome.{IsHomeEffect, body_home}
use Rattle.sv_frame.proofs.Wider.{get_wider, scope_wider, todos_wider, effects_wider, around_wider}
use Rattle.sv_frame.proofs.Homes.{IsHomeState, AllHome, BeginsWith, RunsHome, change_home, suspended_home, process_home, occurred_home, other_home, own_side}

-- the same where there may be more processes than before
pub record Grown (d : Parts) (ss : List Side) (c : Config) : Type 0 where
  pub more : List Side
  pub home : AllHome d (ss ++ more) c

pub stays : (d : Parts) (ss : List Side) (c : Config) → AllHome d ss c → Grown d ss c
stays d ss c h = record { more = []; home = subst (λ xs. AllHome d xs c) (sym (append-nil ss)) h }

pub goes_on : (d : Parts) (ss : List Side) (c e : Config) → Grown d ss c → ((more : List Side) → AllHome d (ss ++ more) c → Grown d (ss ++ more) e) → Grown d ss e
goes_on d ss c e g h =
    let k = h g.more g.home in
    record { more = g.more ++ k.more; home = subst (λ xs. AllHome d xs e) (append_assoc ss g.more k.more) k.home }

pub begins_wider : (d : Parts) (ss more : List Side) → BeginsWith d ss → BeginsWith d (ss ++ more)
begins_wider d ss more b p f is = get_wider ss more p.0 f.side (b p f is)

-- ---- a child more

sides_more : (ps : List ProcessState) (v : ProcessState) → sides (ps ++ v ∷ []) ≡ sides ps ++ v.side ∷ []
sides_more [] v = refl
sides_more (p ∷ ps) v = ap (λ (ss : List Side). p.side ∷ ss) (sides_more ps v)

module _ (d : Parts) (ss : List Side) (c : Config) (h : AllHome d ss c) (p : ProcessId) (q : ProcessState) (r : RoutineId) (b : IsRoutineOf d q.side r) (scope : Option Name) (j : IsScope ss q.side scope) where
  child_home : AllHome d (ss ++ q.side ∷ []) (with_child d p q r scope c)
  child_home = record {
    each = λ i s e. by_place i s (found_more c.processes i.0 (child_of d p r scope q) s e);
    are = sides_more c.processes (child_of d p r scope q) ∙ ap (λ (xs : List Side). xs ++ q.side ∷ []) h.are;
    around = around_wider d ss (q.side ∷ []) c.activations h.around;
  }
    where
      by_place : (i : ProcessId) (s : ProcessState) → (slice_get c.processes i.0 ≡ Some s) ⊎ ((i.0 ≡ length c.processes) × (child_of d p r scope q ≡ s)) → IsHomeState d (ss ++ q.side ∷ []) s
      by_place i s (inl e) = todos_wider d ss (q.side ∷ []) s.side s.rest (h.each i s e)
      by_place i s (inr e) =
          subst (IsHomeState d (ss ++ q.side ∷ [])) e.1 (body_home d (ss ++ q.side ∷ []) q.side r b scope (scope_wider d ss (q.side ∷ []) q.side scope j))

-- ---- a fork

module _ (d : Parts) (at : Place) (p : ProcessId) (q : ProcessState) (scope : Option Name) where
  all_started : (rs : List RoutineId) → AllByRecursion (IsRoutineOf d q.side) rs → (ss : List Side) → IsScope ss q.side scope → (c : Config) → AllHome d ss c → Grown d ss (started d at p scope q rs c)
  all_started [] b ss j c h = stays d ss c h
  all_started (r ∷ rs) b ss j c h =
      by_test (nat_lt (length c.processes) (2 ^ 18))
      (goes_on d ss more (started d at p scope q rs more) (record { more = q.side ∷ []; home = child_home d ss c h p q r b.0 scope j }) (λ xs k. all_started rs b.1 (ss ++ xs) (scope_wider d ss xs q.side scope j) more k))
    where
      more : Config
      more = with_child d p q r scope c

      by_test : (y : Bool) → Grown d ss (started d at p scope q rs (with_child d p q r scope c)) → Grown d ss (cond y (started d at p scope q rs (with_child d p q r scope c)) (met_fault fault.Processes at c))
      by_test true g = g
      by_test false g = stays d ss (met_fault fault.Processes at c) h

  joining_home : (ss : List Side) → BeginsWith d ss → (k : JoinKind) (rs : List ProcessId) (c : Config) → AllHome d ss c → AllHome d ss (joining p k rs c)
  joining_home ss begins join.All (i ∷ rs) c h = suspended_home d ss begins p (Children true (i ∷ rs)) c h
  joining_home ss begins join.Any (i ∷ rs) c h = suspended_home d ss begins p (Children false (i ∷ rs)) c h
  joining_home ss begins k rs c h = h

  pub spawned_home : (ss : List Side) → BeginsWith d ss → (rs : List RoutineId) → AllByRecursion (IsRoutineOf d q.side) rs → IsScope ss q.side scope → (k : JoinKind) (c : Config) → AllHome d ss c
      → Grown d ss (spawned d at p rs scope k (Some q) c)
  spawned_home ss begins rs b j k c h =
      goes_on d ss (started d at p scope q rs c) (spawned d at p rs scope k (Some q) c) (all_started rs b ss j c h)
      (λ more g. stays d (ss ++ more) (spawned d at p rs scope k (Some q) c) (joining_home (ss ++ more) (begins_wider d ss more begins) k (children_from (length c.processes) rs) (started d at p scope q rs c) g))

-- ---- the effects of a step, one after another

module _ (d : Parts) (at : Place) (p : ProcessId) (s : Side) where
  spawn_grown : (ss : List Side) → BeginsWith d ss → slice_get ss p.0 ≡ Some s → (rs : List RoutineId) (scope : Option Name) (k : JoinKind) → IsHomeEffect d ss s (Spawn rs scope k) → (c : Config) → AllHome d ss c
      → (o : Option ProcessState) → process_at c p ≡ o → Grown d ss (spawned d at p rs scope k o c)
  spawn_grown ss begins mine rs scope k e c h None is = stays d ss c h
  spawn_grown ss begins mine rs scope k e c h (Some q) is =
      let same : s ≡ q.side = some_same (sym mine ∙ own_side d ss begins c h p q is) in
      spawned_home d at p q scope ss begins rs (subst (λ s. AllByRecursion (IsRoutineOf d s) rs) same e.0) (subst (λ s. IsScope ss s scope) same e.1) k c h
    where
      some_same : {A : Type 0} {a b : A} → Some a ≡ Some b → a ≡ b
      some_same h = cc

  occurred_grown : (ss : List Side) → BeginsWith d ss → slice_get ss p.0 ≡ Some s → (x : Effect) → IsHomeEffect d ss s x → (c : Config) → AllHome d ss c → Grown d ss (occurred d at p x c)
  occurred_grown ss begins mine (Spawn rs scope k) e c h =
      let new = applied d at p (Spawn rs scope k) c in
      goes_on d ss new (occurred d at p (Spawn rs scope k) c) (spawn_grown ss begins mine rs scope k e c h (process_at c p) refl)
      (λ more g. stays d (ss ++ more) (occurred d at p (Spawn rs scope k) c) (change_home d (ss ++ more) (begins_wider d ss more begins) (woken_by_effect d (Spawn rs scope k) c new) c new g))
  occurred_grown ss begins mine x e c h = stays d ss (occurred d at p x c) (occurred_home d ss begins at p s mine x refl e c h)

  pub all_grown : (ss : List Side) → BeginsWith d ss → slice_get ss p.0 ≡ Some s → (xs : List Effect) → AllByRecursion (IsHomeEffect d ss s) xs → (c : Config) → AllHome d ss c → Grown d ss (all_occurred d at p xs c)
  all_grown ss begins mine [] e c h = stays d ss c h
  all_grown ss begins mine (x ∷ xs) e c h =
      by_test (may_go_on p c)
      (goes_on d ss (occurred d at p x c) (all_occurred d at p xs (occurred d at p x c)) (occurred_grown ss begins mine x e.0 c h)
      (λ more g. all_grown (ss ++ more) (begins_wider d ss more begins) (get_wider ss more p.0 s mine) xs (effects_wider d ss more s xs e.1) (occurred d at p x c) g))
    where
      by_test : (y : Bool) → Grown d ss (all_occurred d at p xs (occurred d at p x c)) → Grown d ss (cond y (all_occurred d at p xs (occurred d at p x c)) c)
      by_test true g = g
      by_test false g = stays d ss c h

-- ---- each kind of step

module _ (d : Parts) (ss : List Side) (begins : BeginsWith d ss) where
  ran_grown : (p : ProcessId) (c : Config) → c.running ≡ Some p → RunsHome d ss begins c → (o : Option ProcessState) → process_at c p ≡ o → AllHome d ss c → Grown d ss (ran_state d p o c)
  ran_grown p c r w None e h = stays d ss c h
  ran_grown p c r w (Some q) e h =
      all_grown d (unwrap_or (place_of_step q.rest) no_place) p q.side ss begins (own_side d ss begins c h p q e) (micro d (seen d c) p q) (w p q r e) (with_process p (λ r. record r { handed = None }) c)
      (process_home d ss begins p (λ r. record r { handed = None }) (λ q. refl) (λ q i k. k) c h)

  statement_grown : (o : Option ProcessId) (c : Config) → c.running ≡ o → RunsHome d ss begins c → AllHome d ss c → Grown d ss (statement_ran d o c)
  statement_grown None c r w h = stays d ss c h
  statement_grown (Some p) c r w h = ran_grown p c r w (process_at c p) refl h

  effect_grown : (c : Config) → RunsHome d ss begins c → AllHome d ss c → (m : Kind) → Grown d ss (effect d c m)
  effect_grown c w h Run_statement = statement_grown c.running c refl w h
  effect_grown c w h m = stays d ss (effect d c m) (other_home d ss begins c h m (λ e. absurd (cc)))

  counted_grown : (s : Side) (n : ℕ) (c : Config) → Grown d ss c → Grown d ss (counted s n c)
  counted_grown Active n c g = record { more = g.more; home = g.home }
  counted_grown Reactive n c g = record { more = g.more; home = g.home }

  pub after_grown : (c : Config) → RunsHome d ss begins c → AllHome d ss c → (m : Kind) → Grown d ss (after d c m)
  after_grown c w h m = counted_grown (side_after c m) (numbers_used m (pickable (front c))) (effect d c m) (effect_grown c w h m)
