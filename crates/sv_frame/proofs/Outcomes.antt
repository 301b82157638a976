-- Each effect keeps two configurations alike.
use Rattle.std.proofs.Common.{ℕ, ◌≡◌, List, [], ◌∷◌, ◌++◌, Option, None, Some, Bool, true, false, cond, refl, ap, subst, sym, ◌∙◌, ◌+◌, inl, inr, arith}
use Rattle.std.specs.Prelude.{◌⊎◌, Result, Ok, Err, ◌==◌, not, is_some, ◌&&◌, nat_lt, length, ◌^◌}
use Rattle.std.specs.List.{AllByRecursion}
use Rattle.sv_value.specs.declared.number.ProcessId.{ProcessId}
use Rattle.sv_value.specs.declared.place.Place.{Place}
use Rattle.sv_value.specs.declared.place.FaultKind.{FaultKind}
use Rattle.sv_value.specs.declared.place.FaultKind.TheVariants as fault
use Rattle.sv_value.specs.declared.schedule.Side.{Side}
use Rattle.sv_value.specs.declared.schedule.Due.TheVariants.{Resume}
use Rattle.sv_value.specs.Waiting.{served, granted}
use Rattle.sv_value.specs.Regions.{set_of, ready_in, front_of, idle_of}
use Rattle.sv_flat.specs.declared.process.Process.{Process}
use Rattle.sv_flat.specs.declared.design.Parts.{Parts}
use Rattle.sv_flat.specs.State.{Name, Activation, Heap, World}
use Rattle.sv_flat.specs.Eval.{with_result}
use Rattle.sv_flat.specs.declared.object.DataType.{DataType}
use Rattle.sv_value.specs.declared.val.Val.{Val}
use Rattle.sv_value.specs.declared.place.RunFault.{RunFault}
use Rattle.sv_flat.specs.Process.{Moment, Turn_in_slot, Cell, Variable_of, Effect, Remain, Enter, Write, Serve, Grant, Suspend, Resume_at, Update_at, Drive_output, Spawn, Await_children, End_descendants, Print_text, Keep_print, Finish_run, Exit_program, End}
use Rattle.sv_flat.specs.Config.{Config, process_at, first_process, side_of, met_fault}
use Rattle.sv_flat.specs.Effects.{applied, with_world, scheduled_after, made_by, may_go_on}
use Rattle.sv_flat.specs.Effects.Writes.{Worlded, stored_over}
use Rattle.sv_flat.specs.Effects.Creation.{fresh_values}
use Rattle.sv_flat.specs.Effects.Scheduling.{suspended}
use Rattle.sv_flat.specs.Effects.Ends.{is_running, at_end}
use Rattle.sv_flat.specs.Laws.{MeetsActivations, all_applied}
use Rattle.sv_frame.proofs.Alike.{Alike, Moves, stays, moves_on, side_same, regions_move, finishing_moves, fault_moves, record_moves, process_moves, heap_moves, store_moves, variable_moves, activation_moves, state_same}
use Rattle.sv_frame.proofs.Heaps.{IsOfHeap, heaped, heap_after, effect_heap, any_number}
use Rattle.std.proofs.lemmas.Bool.Decides.{nat_tests}
use Rattle.sv_flat.specs.Config.{side_in}
use Rattle.sv_built.specs.Built.{IsBuilt}
use Rattle.sv_sound.specs.Sound.{IsSound, IsPlainEffect}
use Rattle.sv_sound.proofs.Weights.{there}
use Rattle.sv_sound.proofs.Running.{running_known}
use Rattle.sv_sound.proofs.EffectSound.{applied_sound}
use Rattle.sv_frame.proofs.Effects.{HasBody, two, scheduled_moves, suspended_moves, update_moves, drove_moves, all_ready_move, handed_moves, kept_moves, end_moves, ready_set}
use Rattle.sv_frame.proofs.Families.{Kin, await_moves, disable_moves, forked_moves}
use Rattle.sv_frame.proofs.Spawned.{spawn_moves}

-- ---- each effect

-- an effect that concerns no children and no parent
abbrev IsLoneEffect : Option Process → Effect → Type 0
IsLoneEffect f (Spawn rs scope k) = ⊥
IsLoneEffect f Await_children = ⊥
IsLoneEffect f End_descendants = ⊥
IsLoneEffect f Exit_program = ⊥
IsLoneEffect f End = HasBody f
IsLoneEffect f e = Unit {0}

-- a process of no program, or one that a fork made
abbrev pub IsOfNoProgram : Option Process → Type 0
IsOfNoProgram None = Unit {0}
IsOfNoProgram (Some f) = f.program ≡ None

-- an effect that sees the reach of its process alone, as shown below
abbrev pub IsFramedEffect : Option Process → Effect → Type 0
IsFramedEffect f Exit_program = ⊥
IsFramedEffect f End = IsOfNoProgram f
IsFramedEffect f e = Unit {0}

-- one of two configurations meets the fault that depends on all activations, or both come to what is alike
abbrev pub Outcome : Parts → Side → ProcessId → (c e c' e' : Config) → Type 0
Outcome d s p c e c' e' = MeetsActivations c' ⊎ (MeetsActivations e' ⊎ Moves d s p c e c' e')

module _ (d : Parts) (s : Side) (at : Place) (p : ProcessId) where
  -- what an effect does beside the world
  beside_moves : (x : Effect) → IsLoneEffect (first_process d p) x → (c e : Config) → Alike d s p c e → Moves d s p c e (scheduled_after d at p x c) (scheduled_after d at p x e)
  beside_moves (Remain rest) f c e h = process_moves d s p c e h p (λ q. record q { rest = rest }) (λ q. refl)
  beside_moves (Enter ts around) f c e h = process_moves d s p c e h p (λ q. record q { made = q.made + 1 }) (λ q. refl)
  beside_moves (Serve k b) f c e h = handed_moves d s p c e h (served b).woken
  beside_moves (Grant k m) f c e h = all_ready_move d s p c e h (granted m).woken
  beside_moves (Suspend Turn_in_slot) f c e h =
      let x = suspended p Turn_in_slot c in
      let y = suspended p Turn_in_slot e in
      two d s p c e x y _ _ (suspended_moves d s p c e h p Turn_in_slot)
      (λ k. regions_move d s p x y k (ready_in (idle_of (side_of c p)) p c.regions) (ready_in (idle_of (side_of e p)) p e.regions)
      (λ old. ready_set s (idle_of (side_of c p)) p c.regions e.regions old ∙ (λ i. set_of s (ready_in (idle_of (side_same d s p c e h p i)) p e.regions))))
  beside_moves (Suspend u) f c e h = suspended_moves d s p c e h p u
  beside_moves (Resume_at t) f c e h =
      let x = suspended p Moment c in
      let y = suspended p Moment e in
      two d s p c e x y _ _ (suspended_moves d s p c e h p Moment)
      (λ k. scheduled_moves d s p x y k t (front_of (side_of c p)) (front_of (side_of e p)) (ap front_of (side_same d s p c e h p)) (Resume p))
  beside_moves (Update_at t j) f c e h = update_moves d s p c e h (side_of c p) (side_of e p) (side_same d s p c e h p) t t refl j
  beside_moves (Drive_output k n v) f c e h = drove_moves d s p c e h at k n v
  beside_moves (Spawn rs scope k) f c e h = absurd f
  beside_moves Await_children f c e h = absurd f
  beside_moves End_descendants f c e h = absurd f
  beside_moves (Print_text t) f c e h =
      record_moves d s p c e h (record { side = side_of c p; text = t }) (record { side = side_of e p; text = t }) (λ i. record { side = side_same d s p c e h p i; text = t })
  beside_moves (Keep_print k pieces es) f c e h =
      kept_moves d s p c e h k (record { side = side_of c p; at = at; pieces = pieces; values = es }) (record { side = side_of e p; at = at; pieces = pieces; values = es })
      (λ i. record { side = side_same d s p c e h p i; at = at; pieces = pieces; values = es })
  beside_moves Finish_run f c e h = finishing_moves d s p c e h true
  beside_moves Exit_program f c e h = absurd f
  beside_moves End f c e h = end_moves d s p c e h f
  beside_moves x f c e h = stays d s p c e h

  -- the world after an effect
  world_moves : (x : Effect) → IsLoneEffect (first_process d p) x → (c e : Config) → Alike d s p c e → (a b : Result Heap FaultKind) → a ≡ b
      → Moves d s p c e (with_world d at p x c (heaped a c.world)) (with_world d at p x e (heaped b e.world))
  world_moves x f c e h (Err k) b same = subst (λ b. Moves d s p c e (met_fault k at c) (with_world d at p x e (heaped b e.world))) same (fault_moves d s p c e h k at)
  world_moves x f c e h (Ok y) b same =
      subst (λ b. Moves d s p c e (with_world d at p x c (Ok (record c.world { heap = y }))) (with_world d at p x e (heaped b e.world))) same
      (let u : Config = record c { world = record c.world { heap = y } } in
      let v : Config = record e { world = record e.world { heap = y } } in
      two d s p c e u v _ _ (heap_moves d s p c e h y y refl) (λ k. beside_moves x f u v k))

  -- an effect that changes the heap alone of what has a value
  heap_applied : (x : Effect) → IsOfHeap x → IsLoneEffect (first_process d p) x → (c e : Config) → Alike d s p c e → Moves d s p c e (applied d at p x c) (applied d at p x e)
  heap_applied x o f c e h =
      let n = made_by (process_at c p) in
      let m = made_by (process_at e p) in
      subst (λ w. Moves d s p c e (with_world d at p x c w) (applied d at p x e)) (sym (effect_heap d p n x o c.world))
      (subst (λ w. Moves d s p c e (with_world d at p x c (heaped (heap_after d p n x c.heap) c.world)) (with_world d at p x e w)) (sym (effect_heap d p m x o e.world))
      (world_moves x f c e h (heap_after d p n x c.heap) (heap_after d p m x e.heap) (ap (heap_after d p n x) h.reach.heap ∙ any_number d p n m x o e.heap)))

  -- an activation more, where one may come in both
  enter_outcome : (ts : List DataType) (around : Option Name) (c e : Config) → Alike d s p c e → Outcome d s p c e (applied d at p (Enter ts around) c) (applied d at p (Enter ts around) e)
  enter_outcome ts around c e h =
      by_tests (nat_lt (length c.activations) (2 ^ 24)) (nat_lt (length e.activations) (2 ^ 24)) (fresh_values ts c.heap) (fresh_values ts e.heap) (ap (fresh_values ts) h.reach.heap)
      (made_by (process_at c p)) (made_by (process_at e p)) (ap made_by (state_same d s p c e h))
    where
      new : ℕ → List Val → Activation
      new n vs = record { name = record { process = p; place = n }; around = around; values = vs }

      more : ℕ → World → List Val × Heap → Worlded
      more n w a = Ok (record w { heap = a.1; activations = w.activations ++ new n a.0 ∷ [] })

      into : ℕ → Config → Bool → Result (List Val × Heap) FaultKind → Config
      into n u b v = with_world d at p (Enter ts around) u (cond b (with_result v (more n u.world)) (Err fault.Activations))

      both : (n : ℕ) (v : Result (List Val × Heap) FaultKind) → Moves d s p c e (into n c true v) (into n e true v)
      both n (Err k) = fault_moves d s p c e h k at
      both n (Ok a) =
          let x : Config = record c { world = record c.world { heap = a.1; activations = c.activations ++ new n a.0 ∷ [] } } in
          let y : Config = record e { world = record e.world { heap = a.1; activations = e.activations ++ new n a.0 ∷ [] } } in
          two d s p c e x y (into n c true (Ok a)) (into n e true (Ok a)) (activation_moves d s p c e h (new n a.0) (new n a.0) refl a.1)
          (λ k. beside_moves (Enter ts around) tt x y k)

      by_tests : (a b : Bool) (v u : Result (List Val × Heap) FaultKind) → v ≡ u → (n m : ℕ) → n ≡ m → Outcome d s p c e (into n c a v) (into m e b u)
      by_tests false b v u same n m even = inl (record { kind = fault.Activations; at = at; time = c.time }, refl, refl)
      by_tests true false v u same n m even = inr (inl (record { kind = fault.Activations; at = at; time = e.time }, refl, refl))
      by_tests true true v u same n m even =
          inr (inr (subst (λ u. Moves d s p c e (into n c true v) (into m e true u)) same (subst (λ m. Moves d s p c e (into n c true v) (into m e true v)) even (both n v))))

  -- an effect, before its wakes
  pub applied_outcome : IsBuilt d → (x : Effect) → IsFramedEffect (first_process d p) x → (c e : Config) → Alike d s p c e → Kin d s p c → Kin d s p e → Outcome d s p c e (applied d at p x c) (applied d at p x e)
  applied_outcome b (Enter ts around) f c e h k l = enter_outcome ts around c e h
  applied_outcome b (Write (Cell o i r) x) f c e h k l = inr (inr (store_moves d s p c e h o.0 (stored_over i r x)))
  applied_outcome b (Write (Variable_of n i r) x) f c e h k l = inr (inr (variable_moves d s p c e h n i r x))
  applied_outcome b (Spawn rs scope j) f c e h k l = inr (inr (spawn_moves d b s p at c e h k l rs scope j (state_same d s p c e h)))
  applied_outcome b Await_children f c e h k l = inr (inr (await_moves d s p c e h k l))
  applied_outcome b End_descendants f c e h k l = inr (inr (disable_moves d s p c e h k l))
  applied_outcome b End f c e h k l = inr (inr (by_first (first_process d p) refl f))
    where
      by_first : (o : Option Process) → first_process d p ≡ o → IsOfNoProgram o → Moves d s p c e (applied d at p End c) (applied d at p End e)
      by_first None is g = subst (λ o. Moves d s p c e (at_end d p o c) (at_end d p o e)) (sym is) (forked_moves d s p c e h k l is)
      by_first (Some q) is g = heap_applied End tt (record { process = q; is = is; of_module = g }) c e h
  applied_outcome b Exit_program f c e h k l = absurd f
  applied_outcome b x f c e h k l = inr (inr (heap_applied x tt tt c e h))

  -- after a fault no effect comes
  stopped : (c : Config) → MeetsActivations c → (xs : List Effect) → MeetsActivations (all_applied d at p xs c)
  stopped c m [] = m
  stopped c m (x ∷ xs) =
      by_test (may_go_on p c) (ap (λ (o : Option RunFault). is_running c.running p && not (is_some o)) m.1 ∙ never (is_running c.running p))
    where
      never : (b : Bool) → (b && false) ≡ false
      never true = refl
      never false = refl

      by_test : (y : Bool) → y ≡ false → MeetsActivations (cond y (all_applied d at p xs (applied d at p x c)) c)
      by_test false e = m
      by_test true e = absurd (cc)

  -- the running process is known, where its effects go on
  runs_on : (c : Config) → may_go_on p c ≡ true → c.running ≡ Some p
  runs_on c h = by_running c.running refl h
    where
      by_running : (o : Option ProcessId) → c.running ≡ o → (is_running o p && not (is_some c.fault)) ≡ true → c.running ≡ Some p
      by_running None r e = absurd (cc)
      by_running (Some q) r e = by_same (q.0 == p.0) refl e
        where
          by_same : (y : Bool) → (q.0 == p.0) ≡ y → (y && not (is_some c.fault)) ≡ true → c.running ≡ Some p
          by_same false n e = absurd (cc)
          by_same true n e = let same : q.0 ≡ p.0 = grind (arith, nat_tests) in r ∙ (λ i. Some (record { 0 = same i }))

  kin_of : (c : Config) → IsSound d c → c.running ≡ Some p → side_of c p ≡ s → Kin d s p c
  kin_of c k r m =
      let t = there c.processes p.0 (running_known d c k p r) in
      record { sound = k; running = r; state = t.0; at = t.1; mine = ap side_in (sym t.1) ∙ m }

  -- the effects of a step, in order
  pub all_outcome : IsBuilt d → (xs : List Effect) → AllByRecursion (IsFramedEffect (first_process d p)) xs → AllByRecursion IsPlainEffect xs → (c e : Config) → Alike d s p c e
      → IsSound d c → IsSound d e → Outcome d s p c e (all_applied d at p xs c) (all_applied d at p xs e)
  all_outcome b [] f g c e h k l = inr (inr (stays d s p c e h))
  all_outcome b (x ∷ xs) f g c e h k l =
      by_test (may_go_on p c) (may_go_on p e) refl refl (λ i. is_running (h.running i) p && not (is_some (h.fault i)))
      (λ m n j. all_outcome b xs f.1 g.1 (applied d at p x c) (applied d at p x e) j m n)
    where
      by_rest : Moves d s p c e (applied d at p x c) (applied d at p x e) → Outcome d s p (applied d at p x c) (applied d at p x e) (all_applied d at p xs (applied d at p x c)) (all_applied d at p xs (applied d at p x e))
          → Outcome d s p c e (all_applied d at p xs (applied d at p x c)) (all_applied d at p xs (applied d at p x e))
      by_rest m (inl k) = inl k
      by_rest m (inr (inl k)) = inr (inl k)
      by_rest m (inr (inr n)) = inr (inr (moves_on d s p c e (applied d at p x c) (applied d at p x e) _ _ m n))

      by_one : Outcome d s p c e (applied d at p x c) (applied d at p x e)
          → (Alike d s p (applied d at p x c) (applied d at p x e) → Outcome d s p (applied d at p x c) (applied d at p x e) (all_applied d at p xs (applied d at p x c)) (all_applied d at p xs (applied d at p x e)))
          → Outcome d s p c e (all_applied d at p xs (applied d at p x c)) (all_applied d at p xs (applied d at p x e))
      by_one (inl k) rest = inl (stopped (applied d at p x c) k xs)
      by_one (inr (inl k)) rest = inr (inl (stopped (applied d at p x e) k xs))
      by_one (inr (inr m)) rest = by_rest m (rest m.like)

      after : (w : Config) → (m : Kin d s p w) → IsSound d (applied d at p x w)
      after w m = applied_sound d w m.sound p m.running m.state m.at b at x g.0

      by_test : (y z : Bool) → may_go_on p c ≡ y → may_go_on p e ≡ z → y ≡ z
          → (IsSound d (applied d at p x c) → IsSound d (applied d at p x e) → Alike d s p (applied d at p x c) (applied d at p x e)
          → Outcome d s p (applied d at p x c) (applied d at p x e) (all_applied d at p xs (applied d at p x c)) (all_applied d at p xs (applied d at p x e)))
          → Outcome d s p c e (cond y (all_applied d at p xs (applied d at p x c)) c) (cond z (all_applied d at p xs (applied d at p x e)) e)
      by_test true true y z w i =
          let m = kin_of c k (runs_on c y) h.mine in
          let n = kin_of e l (runs_on e z) (sym (side_same d s p c e h p) ∙ h.mine) in
          by_one (applied_outcome b x f.0 c e h m n) (λ j. i (after c m) (after e n) j)
      by_test false false y z w i = inr (inr (stays d s p c e h))
      by_test true false y z w i = absurd (cc)
      by_test false true y z w i = absurd (cc)
