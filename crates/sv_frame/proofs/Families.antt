-- Forks, waits for children and ends of descendants keep two configurations alike: children are of the side of their parent.
use Rattle.std.proofs.Common.{ℕ, zero, suc, ◌≡◌, ◌≢◌, ◌+◌, ◌<◌, ◌≤◌, List, [], ◌∷◌, Option, None, Some, Bool, true, false, refl, ap, subst, sym, ◌∙◌, arith, filter, map, length, slice_get, slice_set}
use Rattle.std.specs.Prelude.{◌^◌, nat_lt, not, is_some, ◌&&◌, ◌||◌, ◌==◌, if◌then◌else◌}
use Rattle.std.proofs.lemmas.Bool.Decides.{nat_tests}
use Rattle.sv_value.specs.declared.number.ProcessId.{ProcessId}
use Rattle.sv_value.specs.declared.schedule.Side.{Side}
use Rattle.sv_value.specs.declared.schedule.Side.TheVariants.{Active, Reactive}
use Rattle.sv_value.specs.Regions.{same_side}
use Rattle.sv_flat.specs.declared.design.Parts.{Parts}
use Rattle.sv_flat.specs.Process.{ProcessState, Status, Waiting, Children}
use Rattle.sv_flat.specs.Config.{Config, process_at, first_process, side_in, side_of, numbered_from, state_test, all_made_ready}
use Rattle.sv_flat.specs.Effects.Scheduling.{awaiting}
use Rattle.sv_flat.specs.Effects.Ends.{ended, all_ended, at_end, joined, is_running, is_ended, parent_in, descends_within, descendants, living_children}
use Rattle.sv_flat.specs.Laws.{on_side}
use Rattle.sv_sound.specs.Sound.{IsSound, IsChild, AreChildren, IsUnder, is_over_among, is_complete}
use Rattle.sv_sound.proofs.Related.{length_set, get_none, same_all, same_any}
use Rattle.sv_sound.proofs.Wakes.{slice_get-set_same, slice_get-set_other}
use Rattle.sv_sound.proofs.Changes.{forked_at}
use Rattle.sv_sound.proofs.Ended.{over_state, without, parent_of, joined_is}
use Rattle.sv_frame.proofs.Masks.{states_same}
use Rattle.sv_frame.proofs.Alike.{Alike, Moves, stays, side_same, state_same}
use Rattle.sv_frame.proofs.Effects.{two, suspended_moves, all_ready_move, ended_moves}

some_same : {A : Type 0} {a b : A} → Some a ≡ Some b → a ≡ b
some_same h = cc

-- what a process that runs in a sound configuration is, and on which side
pub record Kin (d : Parts) (s : Side) (p : ProcessId) (c : Config) : Type 0 where
  pub sound : IsSound d c
  pub running : c.running ≡ Some p
  pub state : ProcessState
  pub at : process_at c p ≡ Some state
  pub mine : state.side ≡ s

-- ---- a parent is of the side of its children

module _ (d : Parts) (c : Config) (k : IsSound d c) where
  parent_side : (i a : ProcessId) (q : ProcessState) → process_at c i ≡ Some q → q.parent ≡ Some a → side_of c a ≡ q.side
  parent_side i a q is e = of_under q.parent e (k.related.each i q is).parent
    where
      of_under : (o : Option ProcessId) → o ≡ Some a → IsUnder c.processes i q.side o → side_of c a ≡ q.side
      of_under None f u = absurd (cc)
      of_under (Some b) f u = ap (λ (x : ProcessId). side_of c x) (sym (some_same f)) ∙ u.1

-- ---- numbers

pub lengths : {A : Type 0} (f : ProcessState → A) (ps qs : List ProcessState) → map f ps ≡ map f qs → length ps ≡ length qs
lengths f ps qs h = sym (mapped f ps) ∙ ap length h ∙ mapped f qs
  where
    mapped : {A : Type 0} (f : ProcessState → A) (ps : List ProcessState) → length (map f ps) ≡ length ps
    mapped f [] = refl
    mapped f (p ∷ ps) = ap suc (mapped f ps)

same_numbers : (n : ℕ) (ps qs : List ProcessState) → length ps ≡ length qs → numbered_from n ps ≡ numbered_from n qs
same_numbers n [] [] h = refl
same_numbers n (p ∷ ps) (q ∷ qs) h = ap (λ (xs : List ProcessId). record { 0 = n } ∷ xs) (same_numbers (n + 1) ps qs (let e = h in omega (arith, e)))
same_numbers n [] (q ∷ qs) h = absurd (let e = h in omega (arith, e))
same_numbers n (p ∷ ps) [] h = absurd (let e = h in omega (arith, e))

same_filter : {A : Type 0} (f g : A → Bool) → ((x : A) → f x ≡ g x) → (xs : List A) → filter f xs ≡ filter g xs
same_filter f g h xs = λ i. filter (λ x. h x i) xs

same_sides : (s t : Side) → (same_side s t ≡ true) → t ≡ s
same_sides Active Active h = refl
same_sides Reactive Reactive h = refl
same_sides Active Reactive h = absurd (cc)
same_sides Reactive Active h = absurd (cc)

-- ---- two configurations with equal reach, both sound

module _ (d : Parts) (s : Side) (p : ProcessId) (c e : Config) (h : Alike d s p c e) (k : Kin d s p c) (l : Kin d s p e) where
  same_count : length c.processes ≡ length e.processes
  same_count = lengths (on_side s) c.processes e.processes h.reach.processes

  numbers : numbered_from 0 c.processes ≡ numbered_from 0 e.processes
  numbers = same_numbers 0 c.processes e.processes same_count

  state_on : (i : ProcessId) → side_of c i ≡ s → process_at c i ≡ process_at e i
  state_on i m = states_same s c.processes e.processes h.reach.processes i.0 m

  own : k.state ≡ l.state
  own = some_same (sym k.at ∙ state_same d s p c e h ∙ l.at)

  -- a process of the other side has no parent on this one
  not_child : (w : Config) → IsSound d w → side_of w p ≡ s → (i : ProcessId) (q : ProcessState) → process_at w i ≡ Some q → (q.side ≡ s → ⊥) → is_running q.parent p ≡ false
  not_child w sound mine i q is other = by_parent q.parent refl
    where
      by_parent : (o : Option ProcessId) → q.parent ≡ o → is_running o p ≡ false
      by_parent None f = refl
      by_parent (Some a) f = by_test (a.0 == p.0) refl
        where
          by_test : (b : Bool) → (a.0 == p.0) ≡ b → (a.0 == p.0) ≡ false
          by_test false t = t
          by_test true t =
              let same : a.0 ≡ p.0 = grind (arith, nat_tests) in
              absurd (other (sym (parent_side d w sound i a q is f) ∙ ap (λ n. side_in (slice_get w.processes n)) same ∙ mine))

  mine_c : side_of c p ≡ s
  mine_c = h.mine

  mine_e : side_of e p ≡ s
  mine_e = sym (side_same d s p c e h p) ∙ h.mine

  -- a test that fails on the other side tells the same in both
  same_tests : (f g : ProcessId → ProcessState → Bool)
      → ((i : ProcessId) (q : ProcessState) → side_of c i ≡ s → process_at c i ≡ Some q → f i q ≡ g i q)
      → ((i : ProcessId) (q : ProcessState) → process_at c i ≡ Some q → (q.side ≡ s → ⊥) → f i q ≡ false)
      → ((i : ProcessId) (q : ProcessState) → process_at e i ≡ Some q → (q.side ≡ s → ⊥) → g i q ≡ false)
      → (i : ProcessId) → state_test (f i) (process_at c i) ≡ state_test (g i) (process_at e i)
  same_tests f g same first second i = by_side (same_side s (side_of c i)) refl
    where
      self : (t : Side) → same_side t t ≡ true
      self Active = refl
      self Reactive = refl

      fails_at : (w : Config) (f : ProcessId → ProcessState → Bool) → ((q : ProcessState) → process_at w i ≡ Some q → (q.side ≡ s → ⊥) → f i q ≡ false)
          → (side_of w i ≡ s → ⊥) → (o : Option ProcessState) → process_at w i ≡ o → state_test (f i) o ≡ false
      fails_at w f g n None is = refl
      fails_at w f g n (Some q) is = g q is (λ m. n (ap side_in is ∙ m))

      by_side : (b : Bool) → same_side s (side_of c i) ≡ b → state_test (f i) (process_at c i) ≡ state_test (g i) (process_at e i)
      by_side true t =
          let here : side_of c i ≡ s = same_sides s (side_of c i) t in
          by_state (process_at c i) refl here ∙ ap (state_test (g i)) (state_on i here)
        where
          by_state : (o : Option ProcessState) → process_at c i ≡ o → side_of c i ≡ s → state_test (f i) o ≡ state_test (g i) o
          by_state None is m = refl
          by_state (Some q) is m = same i q m is
      by_side false t =
          let other : side_of c i ≡ s → ⊥ = λ m. (let z : true ≡ false = sym (ap (same_side s) m ∙ self s) ∙ t in cc) in
          fails_at c f (first i) other (process_at c i) refl ∙ sym (fails_at e g (second i) (λ m. other (side_same d s p c e h i ∙ m)) (process_at e i) refl)

  -- ---- living children

  no_left : (a b : Bool) → a ≡ false → (a && b) ≡ false
  no_left a b h = ap (λ x. x && b) h

  same_living : living_children c p ≡ living_children e p
  same_living =
      same_filter _ _
      (same_tests (λ i q. is_running q.parent p && not (is_ended q.latest)) (λ i q. is_running q.parent p && not (is_ended q.latest)) (λ i q m is. refl)
      (λ i q is n. no_left (is_running q.parent p) (not (is_ended q.latest)) (not_child c k.sound mine_c i q is n))
      (λ i q is n. no_left (is_running q.parent p) (not (is_ended q.latest)) (not_child e l.sound mine_e i q is n)))
      (numbered_from 0 c.processes)
      ∙ ap (filter (λ i. state_test (λ q. is_running q.parent p && not (is_ended q.latest)) (process_at e i))) numbers

  waiting_moves : (is : List ProcessId) → Moves d s p c e (awaiting p is c) (awaiting p is e)
  waiting_moves [] = stays d s p c e h
  waiting_moves (i ∷ is) = suspended_moves d s p c e h p (Children true (i ∷ is))

  pub await_moves : Moves d s p c e (awaiting p (living_children c p) c) (awaiting p (living_children e p) e)
  await_moves = subst (λ is. Moves d s p c e (awaiting p (living_children c p) c) (awaiting p is e)) same_living (waiting_moves (living_children c p))

  -- ---- descendants

  -- on this side both see the same parents
  same_descends : (n : ℕ) (i : ProcessId) → side_of c i ≡ s → descends_within n c (Some i) p ≡ descends_within n e (Some i) p
  same_descends zero i m = refl
  same_descends (suc n) i m =
      by_state (process_at c i) refl (λ a l. same_descends n a l) ∙ ap (λ o. is_running (parent_in o) p || descends_within n e (parent_in o) p) (state_on i m)
    where
      none : (n : ℕ) (w : Config) → descends_within n w None p ≡ false
      none zero w = refl
      none (suc n) w = refl

      by_parent : (q : ProcessState) → process_at c i ≡ Some q → (o : Option ProcessId) → q.parent ≡ o → ((a : ProcessId) → side_of c a ≡ s → descends_within n c (Some a) p ≡ descends_within n e (Some a) p)
          → (is_running o p || descends_within n c o p) ≡ (is_running o p || descends_within n e o p)
      by_parent q is None f up = ap (λ b. false || b) (none n c ∙ sym (none n e))
      by_parent q is (Some a) f up =
          ap (λ b. (a.0 == p.0) || b) (up a (parent_side d c k.sound i a q is f ∙ ap side_in (sym is) ∙ m))

      by_state : (o : Option ProcessState) → process_at c i ≡ o → ((a : ProcessId) → side_of c a ≡ s → descends_within n c (Some a) p ≡ descends_within n e (Some a) p)
          → (is_running (parent_in (process_at c i)) p || descends_within n c (parent_in (process_at c i)) p) ≡ (is_running (parent_in o) p || descends_within n e (parent_in o) p)
      by_state None is up = ap (λ o. is_running (parent_in o) p || descends_within n c (parent_in o) p) is ∙ ap (λ b. false || b) (none n c ∙ sym (none n e))
      by_state (Some q) is up = ap (λ o. is_running (parent_in o) p || descends_within n c (parent_in o) p) is ∙ by_parent q is q.parent refl up

  -- who is of the other side does not descend from the process
  never_descends : (w : Config) → IsSound d w → side_of w p ≡ s → (n : ℕ) (i : ProcessId) (q : ProcessState) → process_at w i ≡ Some q → (q.side ≡ s → ⊥) → descends_within n w (Some i) p ≡ false
  never_descends w sound mine zero i q is other = refl
  never_descends w sound mine (suc n) i q is other =
      ap (λ o. is_running (parent_in o) p || descends_within n w (parent_in o) p) is
      ∙ ap (λ b. b || descends_within n w q.parent p) (not_child w sound mine i q is other) ∙ by_parent q.parent refl (λ a t g m. never_descends w sound mine n a t g m)
    where
      none : (n : ℕ) → descends_within n w None p ≡ false
      none zero = refl
      none (suc n) = refl

      by_parent : (o : Option ProcessId) → q.parent ≡ o → ((a : ProcessId) (t : ProcessState) → process_at w a ≡ Some t → (t.side ≡ s → ⊥) → descends_within n w (Some a) p ≡ false)
          → descends_within n w o p ≡ false
      by_parent None f up = none n
      by_parent (Some a) f up =
          let t = parent_of d w sound i q is a f in
          up a t.0 t.1 (λ m. other (sym (parent_side d w sound i a q is f) ∙ ap side_in t.1 ∙ m))

  same_descendants : descendants c p ≡ descendants e p
  same_descendants =
      same_filter _ _
      (same_tests (λ i q. descends_within (length c.processes) c (Some i) p && not (is_ended q.latest)) (λ i q. descends_within (length c.processes) e (Some i) p && not (is_ended q.latest))
      (λ i q m is. ap (λ b. b && not (is_ended q.latest)) (same_descends (length c.processes) i m))
      (λ i q is n. no_left _ (not (is_ended q.latest)) (never_descends c k.sound mine_c (length c.processes) i q is n))
      (λ i q is n. no_left _ (not (is_ended q.latest)) (never_descends e l.sound mine_e (length c.processes) i q is n)))
      (numbered_from 0 c.processes)
      ∙ (λ i. filter (λ j. state_test (λ q. descends_within (same_count i) e (Some j) p && not (is_ended q.latest)) (process_at e j)) (numbers i))

  pub disable_moves : Moves d s p c e (all_ended (descendants c p) c) (all_ended (descendants e p) e)
  disable_moves = subst (λ is. Moves d s p c e (all_ended (descendants c p) c) (all_ended is e)) same_descendants (all_end (descendants c p) c e h)
    where
      all_end : (is : List ProcessId) (u v : Config) → Alike d s p u v → Moves d s p u v (all_ended is u) (all_ended is v)
      all_end [] u v g = stays d s p u v g
      all_end (i ∷ is) u v g = two d s p u v (ended i u) (ended i v) _ _ (ended_moves d s p u v g i) (λ j. all_end is (ended i u) (ended i v) j)

  -- ---- the join that the end of a forked process completes

  module _ (a : ProcessId) (q : ProcessState) (parent : k.state.parent ≡ Some a) (at : process_at c a ≡ Some q) where
    parent_e : l.state.parent ≡ Some a
    parent_e = ap (λ (u : ProcessState). u.parent) (sym own) ∙ parent

    side_a : side_of c a ≡ s
    side_a = parent_side d c k.sound p a k.state k.at parent ∙ k.mine

    at_e : process_at e a ≡ Some q
    at_e = sym (state_on a side_a) ∙ at

    left_c : List ProcessState
    left_c = without d c k.sound p k.state k.at

    left_e : List ProcessState
    left_e = without d e l.sound p l.state l.at

    same_over : (i : ProcessId) → IsChild c.processes a i → is_over_among (without d c k.sound p k.state k.at) i ≡ is_over_among (without d e l.sound p l.state l.at) i
    same_over i child = by_room (nat_lt i.0 (2 ^ 18)) refl
      where
        over_test : Option ProcessState → Bool
        over_test o = state_test (λ q. is_ended q.latest) o

        missing : (w : Config) → IsSound d w → (v : ProcessState) → 2 ^ 18 ≤ i.0 → slice_get (slice_set w.processes p.0 v) i.0 ≡ None
        missing w sound v m =
            let f = sound.related.few in
            let n = length_set w.processes p.0 v in
            get_none (slice_set w.processes p.0 v) i.0 (omega (arith, f, m, n))

        by_number : (b : Bool) → (i.0 == p.0) ≡ b → side_of c i ≡ s → slice_get (slice_set c.processes p.0 (over_state k.state)) i.0 ≡ slice_get (slice_set e.processes p.0 (over_state l.state)) i.0
        by_number true t m =
            let same : i.0 ≡ p.0 = grind (arith, nat_tests) in
            let x : slice_get (slice_set c.processes p.0 (over_state k.state)) p.0 ≡ Some (over_state k.state) = slice_get-set_same c.processes p.0 (over_state k.state) k.state k.at in
            let y : slice_get (slice_set e.processes p.0 (over_state l.state)) p.0 ≡ Some (over_state l.state) = slice_get-set_same e.processes p.0 (over_state l.state) l.state l.at in
            ap (slice_get (slice_set c.processes p.0 (over_state k.state))) same ∙ x ∙ ap (λ (u : ProcessState). Some (over_state u)) own ∙ sym y ∙ sym (ap (slice_get (slice_set e.processes p.0 (over_state l.state))) same)
        by_number false t m =
            let apart : i.0 ≢ p.0 = grind (arith, nat_tests) in
            slice_get-set_other c.processes p.0 i.0 (over_state k.state) apart ∙ state_on i m ∙ sym (slice_get-set_other e.processes p.0 i.0 (over_state l.state) apart)

        side_i : i.0 < 2 ^ 18 → side_of c i ≡ s
        side_i m = by_state (process_at c i) refl (child m)
          where
            by_state : (o : Option ProcessState) → process_at c i ≡ o → parent_in o ≡ Some a → side_of c i ≡ s
            by_state None is f = absurd (cc)
            by_state (Some r) is f = ap side_in is ∙ sym (parent_side d c k.sound i a r is f) ∙ side_a

        by_room : (b : Bool) → nat_lt i.0 (2 ^ 18) ≡ b → is_over_among (slice_set c.processes p.0 (over_state k.state)) i ≡ is_over_among (slice_set e.processes p.0 (over_state l.state)) i
        by_room true t = let m : i.0 < 2 ^ 18 = grind (arith, nat_tests) in ap (state_test (λ q. is_ended q.latest)) (by_number (i.0 == p.0) refl (side_i m))
        by_room false t =
            let m : 2 ^ 18 ≤ i.0 = grind (arith, nat_tests) in
            ap (state_test (λ q. is_ended q.latest)) (missing c k.sound (over_state k.state) m) ∙ sym (ap (state_test (λ q. is_ended q.latest)) (missing e l.sound (over_state l.state) m))

    same_complete : (x : Status) → AreChildren c.processes a x → is_complete (without d c k.sound p k.state k.at) x ≡ is_complete (without d e l.sound p l.state l.at) x
    same_complete (Waiting (Children true is)) y = same_all (IsChild c.processes a) _ _ same_over is y
    same_complete (Waiting (Children false is)) y = same_any (IsChild c.processes a) _ _ same_over is y
    same_complete x y = refl

    same_joined : joined (ended p c) ≡ joined (ended p e)
    same_joined =
        joined_is d c k.sound p k.state k.at a q parent at
        ∙ ap (λ b. if b then a ∷ [] else []) (same_complete q.latest (k.sound.related.each a q at).children)
        ∙ sym (joined_is d e l.sound p l.state l.at a q parent_e at_e)

    ends_moves : Moves d s p c e (at_end d p None c) (at_end d p None e)
    ends_moves =
        subst (λ is. Moves d s p c e (at_end d p None c) (all_made_ready is (ended p e))) same_joined
        (two d s p c e (ended p c) (ended p e) _ _ (ended_moves d s p c e h p) (λ j. all_ready_move d s p (ended p c) (ended p e) j (joined (ended p c))))

  pub forked_moves : first_process d p ≡ None → Moves d s p c e (at_end d p None c) (at_end d p None e)
  forked_moves none = by_parent k.state.parent refl (forked_at d c k.sound p k.state none k.at).forked
    where
      by_parent : (o : Option ProcessId) → k.state.parent ≡ o → is_some o ≡ true → Moves d s p c e (at_end d p None c) (at_end d p None e)
      by_parent None f g = absurd (cc)
      by_parent (Some a) f g = let t = parent_of d c k.sound p k.state k.at a f in ends_moves a t.0 f t.1
