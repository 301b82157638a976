-- What `disable fork` and the ends of those that forks made make of the machine and of the configuration for which it stands.
use Rattle.std.proofs.Common.{◌≡◌, ◌≢◌, ◌<◌, Bool, true, false, List, [], ◌∷◌, Option, None, Some, refl, ap, subst, sym, ◌∙◌, arith, length, map, slice_get, slice_set, filter}
use Rattle.std.specs.Prelude.{is_some, sum_by, ◌==◌, if◌then◌else◌}
use Rattle.std.specs.List.{Contains}
use Rattle.std.proofs.lemmas.Bool.Decides.{nat_tests}
use Rattle.sv_value.specs.declared.number.ProcessId.{ProcessId}
use Rattle.sv_value.specs.declared.schedule.Side.{Side}
use Rattle.sv_value.specs.Regions.{standing, ready_in, front_of, regions_without}
use Rattle.sv_flat.specs.declared.design.Parts.{Parts}
use Rattle.sv_flat.specs.Process
use Rattle.sv_flat.specs.Process.{ProcessState, Status, Ready, Running, Waiting, Moment, Turn_in_slot, Watches, Children, Queue, Start}
use Rattle.sv_flat.specs.Config.{Config, all_made_ready, made_ready, process_at, set_at, side_in}
use Rattle.sv_flat.specs.Effects.Ends.{all_ended, descendants, ended, joined, not_due_to}
use Rattle.sv_sound.specs.Sound.{is_complete, is_parked}
use Rattle.sv_sound.specs.After.{over}
use Rattle.sv_sound.proofs.Weights.{map_at, map_set_same, not_contained, once, one, one_self, parked_done, within}
use Rattle.sv_sound.proofs.Wakes.{slice_get-set_other, slice_get-set_same}
use Rattle.sv_sound.proofs.Related.{is_joining}
use Rattle.sv_sound.proofs.Running.{ended_is}
use Rattle.sv_sound.proofs.Ended.{joined_is, joined_none, over_state, parent_before, parent_of, without}
use Rattle.sv_sound.proofs.Descendants as descendants
use Rattle.sv_sound.proofs.Descendants.{MayEnd, all_may_end, ends_processes, ends_running, ends_sound}
use Rattle.sv_fork.specs.Tree as tree
use Rattle.sv_fork.specs.Tree.{Member, descendants_in, ended_in, is_awaited, is_awaited_by, is_over_in, join_in, join_of, joined_in, listed, member_of, member_test}
use Rattle.sv_fork.proofs.ConfigLaws as configs
use Rattle.sv_fork.proofs.ConfigLaws.{descendants_are, joined_are, members_of, ready_is}
use Rattle.sv_fork.proofs.TreeLaws.{ended_one, got_ended, length-changed}
use Rattle.sv_machine.specs.declared.machine.Machine.{Machine}
use Rattle.sv_machine.specs.Waits.{awaited, awaited_at, awaited_by}
use Rattle.sv_machine.specs.Machine.{Picture, of_machine, of_config, IsAlive, Stands, Tracks, StandsFor, IsAt, Makes, rest_of, was_taken, made_of}
use Rattle.sv_machine.specs.Steps.{IsOver}
use Rattle.sv_machine.specs.Forks.{AllEnd, EndsOne, MayAllEnd, ended_forked}
use Rattle.sv_machine.proofs.FamilyLaws.{family_is, family_count, frames_count, waits_count}
use Rattle.sv_machine.proofs.WakeLaws.{pending_by_taken}
use Rattle.sv_machine.proofs.EffectLaws.{map_set, running_is, state_is, over_tracks}

-- ---- one process ends while another one runs

joins_none : (s : Status) → is_joining s ≡ false → join_of s ≡ None
joins_none Ready h = refl
joins_none Running h = refl
joins_none Process.Ended h = refl
joins_none (Waiting Moment) h = refl
joins_none (Waiting Turn_in_slot) h = refl
joins_none (Waiting (Watches ws scope)) h = refl
joins_none (Waiting (Children all ps)) h = absurd (cc)
joins_none (Waiting Queue) h = refl
joins_none (Waiting Start) h = refl

module _ (d : Parts) (m : Machine) (c : Config) (h : StandsFor d m c) (p i : ProcessId) (e : descendants.Ends d p i c) where
  same : of_machine d m ≡ of_config d c
  same = h.stands.picture

  v : ProcessState
  v = over_state e.state

  -- nobody waits for its end
  pub ends_alone : is_awaited m.tree i ≡ false
  ends_alone =
      ap (λ o. is_awaited_by m.tree (tree.parent_of o)) (ap (λ (ms : List Member). slice_get ms i.0) (family_is d m c same) ∙ map_at member_of c.processes i.0 e.state e.is)
      ∙ by_parent e.state.parent refl
    where
      by_state : (a : ProcessId) → e.state.parent ≡ Some a → (o : Option ProcessState) → process_at c a ≡ o → is_some (join_in (configs.some_member o)) ≡ false
      by_state a g None f = refl
      by_state a g (Some s) f = ap is_some (joins_none s.latest (e.alone a s g f))

      by_parent : (o : Option ProcessId) → e.state.parent ≡ o → is_awaited_by m.tree o ≡ false
      by_parent None g = refl
      by_parent (Some a) g =
          ap (λ (ms : List Member). is_some (join_in (slice_get ms a.0))) (family_is d m c same)
          ∙ ap (λ o. is_some (join_in o)) (configs.member_at c a) ∙ by_state a g (process_at c a) refl

  pub ends_framed : i.0 < length m.processes.items
  ends_framed = let k = within c.processes i.0 e.state e.is in let n = frames_count d m c same in omega (arith, k, n)

  pub ends_sensed : i.0 < length m.sense.waits
  ends_sensed = let k = within c.processes i.0 e.state e.is in let n = waits_count d m c same in omega (arith, k, n)

  ended_picture : of_config d (ended i c) ≡ record (of_config d c) {
    family = ended_in i (map member_of c.processes);
    remaining = slice_set (map rest_of c.processes) i.0 [];
    waiting = slice_set (map awaited_by c.processes) i.0 None;
    regions = regions_without i c.regions;
    future = filter (not_due_to i) c.future;
  }
  ended_picture =
      let u : ProcessState = record e.state { latest = Process.Ended; rest = [] } in
      let es = ends_processes d p i c e in
      let t = ap (map was_taken) es ∙ map_set_same was_taken c.processes i.0 e.state u e.is refl in
      let a = ap (map made_of) es ∙ map_set_same made_of c.processes i.0 e.state u e.is refl in
      let b = ap (map rest_of) es ∙ map_set rest_of c.processes i.0 u in
      let w = ap (map awaited_by) es ∙ map_set awaited_by c.processes i.0 u in
      let n = pending_by_taken d.processes c.processes (ended i c).processes t in
      λ j. record (of_config d c) {
        running = (ends_running d p i c e ∙ sym e.running) j;
        family = configs.ended_is i c j;
        made = a j;
        remaining = b j;
        waiting = w j;
        taken = t j;
        starters = n j;
        regions = regions_without i c.regions;
        future = filter (not_due_to i) c.future;
      }

  module _ (n : Machine) (k : EndsOne d i m n) where
    one_picture : of_machine d n ≡ of_config d (ended i c)
    one_picture =
        let w = ap (map (awaited_at d)) k.waits ∙ map_set (awaited_at d) m.sense.waits i.0 None in
        ap (of_machine d) k.is
        ∙ (λ j. record (of_machine d m) {
          family = ended_in i m.tree;
          remaining = k.left.remaining j;
          waiting = w j;
          regions = regions_without i m.regions;
          future = filter (not_due_to i) m.wheel.events;
        })
        ∙ (λ j. record (same j) {
          family = ended_in i (same j).family;
          remaining = slice_set (same j).remaining i.0 [];
          waiting = slice_set (same j).waiting i.0 None;
          regions = regions_without i (same j).regions;
          future = filter (not_due_to i) (same j).future;
        })
        ∙ sym ended_picture

    runs : m.running ≡ Some p
    runs = ap (λ (x : Picture). x.running) same ∙ e.running

    one_alive : IsAlive n.tree n.running
    one_alive =
        subst (λ (x : Machine). IsAlive x.tree x.running) (sym k.is)
        (subst (IsAlive (ended_in i m.tree)) (sym runs)
        (ap (member_test (λ x. x.over)) (got_ended m.tree i p.0 ∙ ap (λ y. ended_one y (slice_get m.tree p.0)) other) ∙ subst (IsAlive m.tree) runs h.stands.alive))
      where
        other : (p.0 == i.0) ≡ false
        other = let z : i.0 ≢ p.0 = e.other in grind (arith, nat_tests)

    pub one_stands : StandsFor d n (ended i c)
    one_stands = record {
      sound = ends_sound d p i c e;
      going = h.going;
      fault = ap (λ (x : Machine). x.fault) k.is ∙ h.fault;
      stands = record {
        picture = one_picture;
        covers = k.covers;
        alive = one_alive;
        last = (let a = ap (λ (x : Machine). x.wheel.last) k.is in let t = ap (λ (x : Machine). x.time) k.is in let l = h.stands.last in omega (arith, a, t, l));
      };
    }

-- ---- one after another

module _ (d : Parts) (p : ProcessId) where
  pub all_end_none : (m : Machine) → AllEnd d p [] m m
  all_end_none m c h may = h

  pub all_end_more : (i : ProcessId) (is : List ProcessId) (m n l : Machine) → EndsOne d i m n → AllEnd d p is n l → AllEnd d p (i ∷ is) m l
  all_end_more i is m n l k more c h may = more (ended i c) (one_stands d m c h p i may.0 n k) may.1

  pub may_more : (i : ProcessId) (is : List ProcessId) (m n : Machine) → MayAllEnd d p (i ∷ is) m → EndsOne d i m n → MayAllEnd d p is n
  may_more i is m n h k = record { config = ended i h.config; stands = one_stands d m h.config h.stands p i h.may.0 n k; may = h.may.1 }

module _ (d : Parts) (m : Machine) (p : ProcessId) (r : m.running ≡ Some p) (ps : List ProcessId) (are : ps ≡ descendants_in m.tree p) where
  those : (c : Config) → StandsFor d m c → ps ≡ descendants c p
  those c h = are ∙ ap (λ (ms : List Member). descendants_in ms p) (family_is d m c h.stands.picture) ∙ descendants_are c p

  may : (c : Config) → StandsFor d m c → MayEnd d p ps c
  may c h = subst (λ (qs : List ProcessId). MayEnd d p qs c) (sym (those c h)) (all_may_end d c h.sound p (running_is d m c h p r))

  pub descendants_may : IsAt d m → MayAllEnd d p ps m
  descendants_may a = record { config = a.config; stands = a.stands; may = may a.config a.stands }

  pub descendants_make : (n : Machine) → AllEnd d p ps m n → Makes d m n (λ c. all_ended (descendants c p) c)
  descendants_make n k c h =
      let s = k c h (may c h) in
      subst (λ (qs : List ProcessId). Tracks d n (all_ended qs c)) (those c h)
      (record { time = ap (λ (x : Picture). x.time) s.stands.picture; fault = s.fault; going = λ g. s.stands })

-- ---- the end of one that a fork made

complete_joins : (qs : List ProcessState) (s : Status) → is_complete qs s ≡ true → is_joining s ≡ true
complete_joins qs (Waiting (Children all ps)) h = refl
complete_joins qs s h = absurd (cc)

joins_parked : (s : Status) → is_joining s ≡ true → is_parked s ≡ true
joins_parked (Waiting (Children all ps)) h = refl
joins_parked s h = absurd (cc)

joins_unwatched : (s : Status) → is_joining s ≡ true → awaited s ≡ None
joins_unwatched (Waiting (Children all ps)) h = refl
joins_unwatched s h = absurd (cc)

-- the parent whose join is complete
pub record IsJoined (c : Config) (p a : ProcessId) : Type 0 where
  pub state : ProcessState
  pub at : process_at c a ≡ Some state
  pub before : a.0 < p.0
  pub joins : is_joining state.latest ≡ true

-- as many processes as before
pub told_length : (ms : List Member) (p a : ProcessId) → length (tree.ready_in a (ended_in p ms)) ≡ length ms
told_length ms p a =
    length-changed (ended_in p ms) (λ x. record x { over = false; join = None }) a ∙ length-changed ms (λ x. record x { over = true; join = None }) p

-- a process that waits becomes ready
ready_stands : (d : Parts) (m : Machine) (c : Config) (a : ProcessId) (s : ProcessState) → Stands d m c → process_at c a ≡ Some s → awaited s.latest ≡ None → m.running ≡ None
    → Stands d (record m { tree = tree.ready_in a m.tree; regions = ready_in (front_of s.side) a m.regions }) (made_ready a c)
ready_stands d m c a s h at calm none = record {
  picture = (λ i. record (h.picture i) { family = tree.ready_in a (h.picture i).family; regions = ready_in (front_of s.side) a (h.picture i).regions }) ∙ sym picture;
  covers = h.covers;
  alive = subst (IsAlive (tree.ready_in a m.tree)) (sym none) tt;
  last = h.last;
}
  where
    u : ProcessState
    u = record s { latest = Ready }

    -- its state in short
    ready : made_ready a c ≡ record c { processes = slice_set c.processes a.0 (record s { latest = Ready }); regions = ready_in (front_of s.side) a c.regions }
    ready = ap (λ o. record c { processes = set_at o (λ s. record s { latest = Ready }) a c.processes; regions = ready_in (front_of (side_in o)) a c.regions }) at

    picture : of_config d (made_ready a c) ≡ record (of_config d c) { family = tree.ready_in a (map member_of c.processes); regions = ready_in (front_of s.side) a c.regions }
    picture =
        let es : (made_ready a c).processes ≡ slice_set c.processes a.0 (record s { latest = Ready }) = ap (λ (x : Config). x.processes) ready in
        let t = ap (map was_taken) es ∙ map_set_same was_taken c.processes a.0 s (record s { latest = Ready }) at refl in
        let k = ap (map made_of) es ∙ map_set_same made_of c.processes a.0 s (record s { latest = Ready }) at refl in
        let b = ap (map rest_of) es ∙ map_set_same rest_of c.processes a.0 s (record s { latest = Ready }) at refl in
        let w = ap (map awaited_by) es ∙ map_set_same awaited_by c.processes a.0 s (record s { latest = Ready }) at (sym calm) in
        let n = pending_by_taken d.processes c.processes (made_ready a c).processes t in
        λ i. record (of_config d c) {
          family = ready_is a c i;
          made = k i;
          remaining = b i;
          waiting = w i;
          taken = t i;
          starters = n i;
          regions = (ap (λ (x : Config). x.regions) ready) i;
        }

module _ (d : Parts) (m : Machine) (p : ProcessId) (r : m.running ≡ Some p) (o : Option ProcessId) (told : joined_in (ended_in p m.tree) ≡ listed o) where
  joined_told : (c : Config) → StandsFor d m c → joined (ended p c) ≡ listed o
  joined_told c h = sym (joined_are (ended p c)) ∙ ap joined_in (configs.ended_is p c ∙ ap (ended_in p) (sym (family_is d m c h.stands.picture))) ∙ told

  -- who is told waited for it
  pub told_joined : (c : Config) → StandsFor d m c → (a : ProcessId) → o ≡ Some a → IsJoined c p a
  told_joined c h a e = by_parent q.0.parent refl
    where
      q : (q : ProcessState) × (process_at c p ≡ Some q)
      q = state_is d m c h p r

      one : joined (ended p c) ≡ a ∷ []
      one = joined_told c h ∙ ap listed e

      by_parent : (x : Option ProcessId) → q.0.parent ≡ x → IsJoined c p a
      by_parent None g = (let z : [] ≡ a ∷ [] = sym (joined_none d c h.sound p q.0 q.1 g) ∙ one in absurd (cc))
      by_parent (Some y) g = by_test (is_complete (without d c h.sound p q.0 q.1) s.0.latest) refl (sym (joined_is d c h.sound p q.0 q.1 y s.0 g s.1) ∙ one)
        where
          s : (s : ProcessState) × (process_at c y ≡ Some s)
          s = parent_of d c h.sound p q.0 q.1 y g

          by_test : (b : Bool) → is_complete (without d c h.sound p q.0 q.1) s.0.latest ≡ b → (if b then y ∷ [] else []) ≡ a ∷ [] → IsJoined c p a
          by_test false f z = absurd (cc)
          by_test true f z =
              let same : y ≡ a = cc in
              record {
                state = s.0;
                at = ap (process_at c) (sym same) ∙ s.1;
                before = (let l = parent_before d c h.sound p q.0 q.1 y s.0 g s.1 in let w = ap (λ (x : ProcessId). x.0) same in omega (arith, l, w));
                joins = complete_joins (without d c h.sound p q.0 q.1) s.0.latest f;
              }

  pub told_known : IsAt d m → (a : ProcessId) → o ≡ Some a → a.0 < length m.tree
  told_known i a e =
      let j = told_joined i.config i.stands a e in
      let k = within i.config.processes a.0 j.state j.at in
      let n = family_count d m i.config i.stands.stands.picture in
      omega (arith, k, n)

  pub told_absent : IsAt d m → (a : ProcessId) → o ≡ Some a → Contains (standing m.regions) a → ⊥
  told_absent i a e g =
      let c = i.config in
      let j = told_joined c i.stands a e in
      let w = i.stands.sound.weights (one a) in
      let s = ap (λ (x : Picture). sum_by (one a) (standing x.regions)) i.stands.stands.picture in
      let n = parked_done (one a) c.processes a j.state (record j.state { latest = Running }) j.at (joins_parked j.state.latest j.joins) refl in
      let y = one_self a in
      let l = once a 0 c.processes in
      not_contained a (standing m.regions) (omega (arith, w, s, n, y, l)) g

  module _ (c : Config) (h : StandsFor d m c) where
    q' : (q : ProcessState) × (process_at c p ≡ Some q)
    q' = state_is d m c h p r

    ends_is : ended_forked p c ≡ all_made_ready (listed o) (over p q'.0 c)
    ends_is =
        ap (λ (ps : List ProcessId). all_made_ready ps (ended p c)) (joined_told c h)
        ∙ ap (all_made_ready (listed o)) (ended_is d c h.sound p (running_is d m c h p r) q'.0 q'.1)

    pub forked_alone : (n : Machine) → o ≡ None → IsOver d p m n → Tracks d n (ended_forked p c)
    forked_alone n e k =
        subst (Tracks d n) (sym (ends_is ∙ ap (λ x. all_made_ready (listed x) (over p q'.0 c)) e)) (over_tracks d m c h p r q'.0 q'.1 n k)

    pub forked_tells : (n l : Machine) (a : ProcessId) (s : Side) → o ≡ Some a → IsOver d p m n → s ≡ tree.side_of (slice_get (tree.ready_in a n.tree) a.0)
        → l ≡ record n { tree = tree.ready_in a n.tree; regions = ready_in (front_of s) a n.regions } → Tracks d l (ended_forked p c)
    forked_tells n l a s e k side is =
        let t = over_tracks d m c h p r q'.0 q'.1 n k in
        let j = told_joined c h a e in
        let apart : a.0 ≢ p.0 = λ z. absurd (let y = j.before in omega (arith, y, z)) in
        let at : process_at (over p q'.0 c) a ≡ Some j.state = slice_get-set_other c.processes p.0 a.0 (record q'.0 { latest = Process.Ended; rest = [] }) apart ∙ j.at in
        let none : n.running ≡ None = ap (λ (x : Machine). x.running) k.is in
        let stands : Stands d n (over p q'.0 c) = t.going h.going in
        let sided : s ≡ j.state.side =
        side ∙ ap (λ (ms : List Member). tree.side_of (slice_get ms a.0)) (ap (λ (x : Picture). tree.ready_in a x.family) stands.picture ∙ sym (ready_is a (over p q'.0 c)))
        ∙ configs.side_is (made_ready a (over p q'.0 c)) a
        ∙ ready_side (over p q'.0 c) a j.state at in
        let ready = ready_stands d n (over p q'.0 c) a j.state stands at (joins_unwatched j.state.latest j.joins) none in
        subst (λ (x : Machine). Tracks d x (ended_forked p c)) (sym (is ∙ ap (λ y. record n { tree = tree.ready_in a n.tree; regions = ready_in (front_of y) a n.regions }) sided))
        (subst (Tracks d (record n { tree = tree.ready_in a n.tree; regions = ready_in (front_of j.state.side) a n.regions })) (sym (ends_is ∙ ap (λ x. all_made_ready (listed x) (over p q'.0 c)) e))
        (record { time = t.time; fault = t.fault; going = λ g. ready }))
      where
        ready_side : (e : Config) (a : ProcessId) (s : ProcessState) → process_at e a ≡ Some s → side_in (process_at (made_ready a e) a) ≡ s.side
        ready_side e a s at =
            ap (λ o. side_in (slice_get (set_at o (λ s. record s { latest = Ready }) a e.processes) a.0)) at
            ∙ ap side_in (slice_get-set_same e.processes a.0 (record s { latest = Ready }) s at)
