-- A fork keeps two configurations alike: as many processes are there in both, and the children are of the side.
use Rattle.std.proofs.Common.{◌≡◌, ◌<◌, List, [], ◌∷◌, ◌++◌, Option, Some, Bool, true, false, cond, refl, ap, subst, sym, ◌∙◌, arith, filter, map, length, slice_get}
use Rattle.std.specs.Prelude.{◌^◌, nat_lt}
use Rattle.std.specs.List.{AllByRecursion}
use Rattle.std.proofs.lemmas.Bool.Decides.{nat_tests}
use Rattle.std.proofs.lemmas.List.{append-nil}
use Rattle.sv_value.specs.declared.number.ProcessId.{ProcessId}
use Rattle.sv_value.specs.declared.number.RoutineId.{RoutineId}
use Rattle.sv_value.specs.declared.place.Place.{Place}
use Rattle.sv_value.specs.declared.place.FaultKind.TheVariants as fault
use Rattle.sv_value.specs.declared.schedule.Side.{Side}
use Rattle.sv_value.specs.Regions.{set_of, ready_in, front_of, same_side}
use Rattle.sv_flat.specs.declared.stmt.JoinKind.{JoinKind}
use Rattle.sv_flat.specs.declared.stmt.JoinKind.TheVariants as join
use Rattle.sv_flat.specs.declared.design.Parts.{Parts}
use Rattle.sv_flat.specs.State.{Name, Activation}
use Rattle.sv_flat.specs.Process.{ProcessState, Children}
use Rattle.sv_flat.specs.Config.{Config, process_at, side_in, met_fault}
use Rattle.sv_flat.specs.Effects.Scheduling.{child_of, children_from, started, joining, spawned}
use Rattle.sv_flat.specs.Laws.{on_side}
use Rattle.sv_built.specs.Built.{IsBuilt}
use Rattle.sv_sound.specs.Sound.{IsSound, IsMadeBy}
use Rattle.sv_sound.specs.After.{with_child}
use Rattle.sv_sound.proofs.Weights.{within}
use Rattle.sv_sound.proofs.Related.{get_before}
use Rattle.sv_sound.proofs.Forks.{child_sound}
use Rattle.sv_frame.proofs.Alike.{Alike, Moves, stays, fault_moves}
use Rattle.sv_frame.proofs.Effects.{two, suspended_moves, ready_set}
use Rattle.sv_frame.proofs.Families.{Kin, lengths}

map_more : {A B : Type 0} (f : A → B) (xs : List A) (x : A) → map f (xs ++ x ∷ []) ≡ map f xs ++ f x ∷ []
map_more f [] x = refl
map_more f (y ∷ xs) x = ap (λ (ys : List _). f y ∷ ys) (map_more f xs x)

-- the activations of a side are the same where there is a process more
made_same : (s : Side) (qs : List ProcessState) (v : ProcessState) (as' : List Activation) → AllByRecursion (IsMadeBy qs) as'
    → filter (λ a. same_side s (side_in (slice_get (qs ++ v ∷ []) a.name.process.0))) as' ≡ filter (λ a. same_side s (side_in (slice_get qs a.name.process.0))) as'
made_same s qs v [] h = refl
made_same s qs v (a ∷ as') h =
    λ i. cond (same_side s (side_in (get_before qs a.name.process.0 v h.0 i))) (a ∷ made_same s qs v as' h.1 i) (made_same s qs v as' h.1 i)

module _ (d : Parts) (b : IsBuilt d) (s : Side) (p : ProcessId) (at : Place) (q : ProcessState) (mine : q.side ≡ s) (scope : Option Name) where
  -- ---- a child more

  child_moves : (r : RoutineId) (c e : Config) → Alike d s p c e → IsSound d c → IsSound d e → process_at c p ≡ Some q → Moves d s p c e (with_child d p q r scope c) (with_child d p q r scope e)
  child_moves r c e h k l is =
      let v : ProcessState = child_of d p r scope q in
      let count : length c.processes ≡ length e.processes = lengths (on_side s) c.processes e.processes h.reach.processes in
      record {
        like = record {
          reach = record {
            time = h.reach.time;
            processes = map_more (on_side s) c.processes v ∙ ap (λ (xs : List (Option ProcessState)). xs ++ on_side s v ∷ []) h.reach.processes ∙ sym (map_more (on_side s) e.processes v);
            activations = made_same s c.processes v c.activations k.made ∙ h.reach.activations ∙ sym (made_same s e.processes v e.activations l.made);
            heap = h.reach.heap;
            clocks = h.reach.clocks;
            strobes = h.reach.strobes;
            monitor = h.reach.monitor;
            objects = h.reach.objects;
          };
          fault = h.fault;
          running = h.running;
          mine = ap side_in (get_before c.processes p.0 v (within c.processes p.0 q is)) ∙ h.mine;
        };
        more = [];
        first = sym (append-nil c.records);
        second = sym (append-nil e.records);
        ready = λ x. ready_set s (front_of q.side) (record { 0 = length c.processes }) c.regions e.regions x ∙ (λ i. set_of s (ready_in (front_of q.side) (record { 0 = count i }) e.regions));
        future = λ x. x;
        finishing = λ x. x;
      }

  -- ---- all of them

  abbrev all_in : List RoutineId → Config → Config
  all_in rs c = started d at p scope q rs c

  started_moves : (rs : List RoutineId) (c e : Config) → Alike d s p c e → IsSound d c → IsSound d e → process_at c p ≡ Some q → process_at e p ≡ Some q → Moves d s p c e (all_in rs c) (all_in rs e)
  started_moves [] c e h k l is too = stays d s p c e h
  started_moves (r ∷ rs) c e h k l is too =
      by_test (nat_lt (length c.processes) (2 ^ 18)) (nat_lt (length e.processes) (2 ^ 18)) refl refl (ap (λ n. nat_lt n (2 ^ 18)) count)
      (λ m n g. started_moves rs (with_child d p q r scope c) (with_child d p q r scope e) g (child_sound d b c k p q is r scope m) (child_sound d b e l p q too r scope n)
      (get_before c.processes p.0 (child_of d p r scope q) (within c.processes p.0 q is) ∙ is) (get_before e.processes p.0 (child_of d p r scope q) (within e.processes p.0 q too) ∙ too))
    where
      count : length c.processes ≡ length e.processes
      count = lengths (on_side s) c.processes e.processes h.reach.processes

      by_test : (y z : Bool) → nat_lt (length c.processes) (2 ^ 18) ≡ y → nat_lt (length e.processes) (2 ^ 18) ≡ z → y ≡ z
          → (length c.processes < 2 ^ 18 → length e.processes < 2 ^ 18 → Alike d s p (with_child d p q r scope c) (with_child d p q r scope e)
          → Moves d s p (with_child d p q r scope c) (with_child d p q r scope e) (all_in rs (with_child d p q r scope c)) (all_in rs (with_child d p q r scope e)))
          → Moves d s p c e (cond y (all_in rs (with_child d p q r scope c)) (met_fault fault.Processes at c)) (cond z (all_in rs (with_child d p q r scope e)) (met_fault fault.Processes at e))
      by_test true true y z w i =
          let m : length c.processes < 2 ^ 18 = grind (arith, nat_tests) in
          let n : length e.processes < 2 ^ 18 = grind (arith, nat_tests) in
          two d s p c e (with_child d p q r scope c) (with_child d p q r scope e) _ _ (child_moves r c e h k l is) (λ g. i m n g)
      by_test false false y z w i = fault_moves d s p c e h fault.Processes at
      by_test true false y z w i = absurd (cc)
      by_test false true y z w i = absurd (cc)

  joining_moves : (k : JoinKind) (is : List ProcessId) (c e : Config) → Alike d s p c e → Moves d s p c e (joining p k is c) (joining p k is e)
  joining_moves join.All (i ∷ is) c e h = suspended_moves d s p c e h p (Children true (i ∷ is))
  joining_moves join.Any (i ∷ is) c e h = suspended_moves d s p c e h p (Children false (i ∷ is))
  joining_moves k is c e h = stays d s p c e h

  fork_moves : (rs : List RoutineId) (j : JoinKind) (c e : Config) → Alike d s p c e → IsSound d c → IsSound d e → process_at c p ≡ Some q → process_at e p ≡ Some q
      → Moves d s p c e (spawned d at p rs scope j (Some q) c) (spawned d at p rs scope j (Some q) e)
  fork_moves rs j c e h k l is too =
      subst (λ n. Moves d s p c e (spawned d at p rs scope j (Some q) c) (joining p j (children_from n rs) (all_in rs e))) (lengths (on_side s) c.processes e.processes h.reach.processes)
      (two d s p c e (all_in rs c) (all_in rs e) _ _ (started_moves rs c e h k l is too) (λ g. joining_moves j (children_from (length c.processes) rs) (all_in rs c) (all_in rs e) g))

-- ---- a fork

module _ (d : Parts) (b : IsBuilt d) (s : Side) (p : ProcessId) (at : Place) (c e : Config) (h : Alike d s p c e) (k : Kin d s p c) (l : Kin d s p e) where
  pub spawn_moves : (rs : List RoutineId) (scope : Option Name) (j : JoinKind) → process_at c p ≡ process_at e p
      → Moves d s p c e (spawned d at p rs scope j (process_at c p) c) (spawned d at p rs scope j (process_at e p) e)
  spawn_moves rs scope j same =
      let too : process_at e p ≡ Some k.state = sym same ∙ k.at in
      subst (λ o. Moves d s p c e (spawned d at p rs scope j (process_at c p) c) (spawned d at p rs scope j o e)) (sym too)
      (subst (λ o. Moves d s p c e (spawned d at p rs scope j o c) (spawned d at p rs scope j (Some k.state) e)) (sym k.at) (fork_moves d b s p at k.state k.mine scope rs j c e h k.sound l.sound k.at too))
