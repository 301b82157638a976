-- A process that is taken: it runs, and after the last starter the `always_comb` are ready.
use Rattle.std.proofs.Common.{ℕ, zero, suc, ◌≡◌, ◌+◌, ◌<◌, ◌≤◌, ◌^◌, Bool, true, false, List, [], ◌∷◌, Option, None, Some, refl, ap, subst, sym, ◌∙◌, arith, length, map, slice_get, slice_set}
use Rattle.std.specs.Prelude.{not, ◌&&◌, ◌==◌, if◌then◌else◌, sum_by}
use Rattle.std.specs.List.{AllByRecursion}
use Rattle.std.proofs.lemmas.Bool.Decides.{nat_tests}
use Rattle.std.proofs.lemmas.List.{length-map}
use Rattle.std.proofs.lemmas.List.Sums.{sum_by-cons}
use Rattle.sv_value.specs.declared.number.ProcessId.{ProcessId}
use Rattle.sv_value.specs.Regions.{Regions, standing, ready_in, front_of}
use Rattle.sv_flat.specs.declared.process.Process.{Process}
use Rattle.sv_flat.specs.declared.design.Parts.{Parts}
use Rattle.sv_flat.specs.Process.{ProcessState, Status, Ready, Running, Waiting, Start}
use Rattle.sv_flat.specs.Config.{Config, starts, is_always_comb, first_test, state_test, process_at, first_process, all_made_ready}
use Rattle.sv_flat.specs.Effects.Ends.{is_ended}
use Rattle.sv_flat.specs.Steps.{is_starter, waiting_starters, held_combs, combs_started}
use Rattle.sv_sound.specs.Sound.{AreStates, is_parked, parked_weight, is_pending, pending_count, weight_of_all}
use Rattle.sv_sound.specs.After.{taken_off, taken_short, is_last}
use Rattle.sv_sound.proofs.Weights.{there, map_at, map_set_same}
use Rattle.sv_sound.proofs.States.{state_found}
use Rattle.sv_sound.proofs.Wakes.{slice_get-set_same, states_after, regions_after, readied_are}
use Rattle.sv_sound.proofs.Changes.{all_there}
use Rattle.sv_sound.proofs.Reached.{ready_known, calm, now_is, states_then, now_sound, waiting_counted, starter_pends}
use Rattle.sv_fork.specs.Tree as tree
use Rattle.sv_fork.specs.Tree.{Member, is_over_in, join_of, member_of, member_test, side_of}
use Rattle.sv_sense.specs.Sensed.{Covers}
use Rattle.sv_machine.specs.declared.machine.Machine.{Machine}
use Rattle.sv_machine.specs.Waits.{awaited, awaited_by}
use Rattle.sv_machine.specs.Machine.{Picture, of_machine, of_config, IsAlive, Tracks, rest_of, was_taken, made_of}
use Rattle.sv_machine.specs.Starts.{held_from, Takes}
use Rattle.sv_machine.specs.Wakes.{side_at, all_ready, IsKnown}
use Rattle.sv_machine.proofs.FamilyLaws.{family_count, numbers_map, taken_count}
use Rattle.sv_machine.proofs.WakeLaws.{family_stays, rest_stays, taken_stays, made_stays, pending_by_taken}
use Rattle.sv_machine.proofs.EffectLaws.{map_set, set_same, not_awaited}

and_false : (b : Bool) → (b && false) ≡ false
and_false true = refl
and_false false = refl

-- ---- starters that are to come

-- what one process counts for: one that a fork made is no starter
abbrev counts : Option Process → ProcessState → ℕ
counts o q = if first_test starts o && not q.was_taken then 1 else 0

pub pending_swap : (fs : List Process) (qs : List ProcessState) (i : ℕ) (q v : ProcessState) → slice_get qs i ≡ Some q
    → pending_count fs (slice_set qs i v) + counts (slice_get fs i) q ≡ pending_count fs qs + counts (slice_get fs i) v
pending_swap [] qs i q v b = refl
pending_swap (g ∷ fs) [] i q v b = absurd (cc)
pending_swap (g ∷ fs) (r ∷ qs) zero q v b =
    let y : r ≡ q = cc in
    let s : counts (Some g) r ≡ counts (Some g) q = λ i. counts (Some g) (y i) in
    omega (arith, s)
pending_swap (g ∷ fs) (r ∷ qs) (suc i) q v b = let k = pending_swap fs qs i q v b in omega (arith, k)

-- ---- the `always_comb` that are held

-- a test of processes by number and state that holds for those that are held
pub record TestsHeld (t : ℕ → ProcessState → Bool) (n : ℕ) (fs : List Process) : Type 0 where
  pub at : (i : ℕ) (f : Process) (q : ProcessState) → slice_get fs i ≡ Some f → t (n + i) q ≡ (is_always_comb f.kind && not q.was_taken)
  pub beyond : (i : ℕ) (q : ProcessState) → slice_get fs i ≡ None → t (n + i) q ≡ false

later_held : (t : ℕ → ProcessState → Bool) (n : ℕ) (f : Process) (fs : List Process) → TestsHeld t n (f ∷ fs) → TestsHeld t (n + 1) fs
later_held t n f fs h = record {
  at = λ i g q e. (let z : n + 1 + i ≡ n + suc i = omega arith in ap (λ m. t m q) z ∙ h.at (suc i) g q e);
  beyond = λ i q e. (let z : n + 1 + i ≡ n + suc i = omega arith in ap (λ m. t m q) z ∙ h.beyond (suc i) q e);
}

first_held : (t : ℕ → ProcessState → Bool) (n : ℕ) (f : Process) (fs : List Process) → TestsHeld t n (f ∷ fs) → (q : ProcessState) → t n q ≡ (is_always_comb f.kind && not q.was_taken)
first_held t n f fs h q = (let z : n ≡ n + 0 = omega arith in ap (λ m. t m q) z ∙ h.at 0 f q refl)

-- those that are held waited for no change, and are parked
pub record AreHeld (t : ℕ → ProcessState → Bool) (n : ℕ) (qs : List ProcessState) : Type 0 where
  pub at : (i : ℕ) (q : ProcessState) → slice_get qs i ≡ Some q → t (n + i) q ≡ true → q.latest ≡ Waiting Start

later_are : (t : ℕ → ProcessState → Bool) (n : ℕ) (q : ProcessState) (qs : List ProcessState) → AreHeld t n (q ∷ qs) → AreHeld t (n + 1) qs
later_are t n q qs h = record { at = λ i r e f. (let z : n + suc i ≡ n + 1 + i = omega arith in h.at (suc i) r e (ap (λ m. t m r) z ∙ f)) }

first_are : (t : ℕ → ProcessState → Bool) (n : ℕ) (q : ProcessState) (qs : List ProcessState) → AreHeld t n (q ∷ qs) → t n q ≡ true → q.latest ≡ Waiting Start
first_are t n q qs h f = (let z : n + 0 ≡ n = omega arith in h.at 0 q refl (ap (λ m. t m q) z ∙ f))

pub waits_stay : (t : ℕ → ProcessState → Bool) (n : ℕ) (qs : List ProcessState) → AreHeld t n qs → map awaited_by (states_after t n qs) ≡ map awaited_by qs
waits_stay t n [] h = refl
waits_stay t n (q ∷ qs) h = λ i. first (t n q) (first_are t n q qs h) i ∷ waits_stay t (n + 1) qs (later_are t n q qs h) i
  where
    first : (b : Bool) → (b ≡ true → q.latest ≡ Waiting Start) → awaited_by (if b then record q { latest = Ready } else q) ≡ awaited_by q
    first true k = sym (ap awaited (k refl))
    first false k = refl

-- where there is no process of the design left, none is held
none_ready : (t : ℕ → ProcessState → Bool) (n : ℕ) (qs : List ProcessState) → TestsHeld t n [] → (r : Regions) → r ≡ regions_after t n qs r
none_ready t n [] h r = refl
none_ready t n (q ∷ qs) h r =
    let z : n + 0 ≡ n = omega arith in
    let no : t n q ≡ false = ap (λ m. t m q) (sym z) ∙ h.beyond 0 q refl in
    let later : TestsHeld t (n + 1) [] = record {
      at = λ i g q e. absurd (cc);
      beyond = λ i q e. (let y : n + 1 + i ≡ n + suc i = omega arith in ap (λ m. t m q) y ∙ h.beyond (suc i) q refl);
    } in
    none_ready t (n + 1) qs later r ∙ ap (λ (b : Bool). regions_after t (n + 1) qs (if b then ready_in (front_of q.side) (record { 0 = n }) r else r)) (sym no)

pub held_ready : (ms : List Member) (x : Bool) (t : ℕ → ProcessState → Bool) (n : ℕ) (fs : List Process) (qs : List ProcessState) → AreStates x fs qs → TestsHeld t n fs
    → ((i : ℕ) (q : ProcessState) → slice_get qs i ≡ Some q → q.side ≡ side_at ms (record { 0 = n + i })) → (r : Regions)
    → all_ready ms (held_from n fs (map was_taken qs)) r ≡ regions_after t n qs r
held_ready ms x t n [] qs a h s r = none_ready t n qs h r
held_ready ms x t n (f ∷ fs) [] a h s r = absurd a
held_ready ms x t n (f ∷ fs) (q ∷ qs) a h s r =
    let z : n + 0 ≡ n = omega arith in
    let side : q.side ≡ side_at ms (record { 0 = n }) = s 0 q refl ∙ ap (λ m. side_at ms (record { 0 = m })) z in
    let sides : (i : ℕ) (r : ProcessState) → slice_get qs i ≡ Some r → r.side ≡ side_at ms (record { 0 = n + 1 + i }) =
    λ i r e. (let y : n + suc i ≡ n + 1 + i = omega arith in s (suc i) r e ∙ ap (λ m. side_at ms (record { 0 = m })) y) in
    by_test (is_always_comb f.kind && not q.was_taken) side (held_ready ms x t (n + 1) fs qs a.1 (later_held t n f fs h) sides)
    ∙ ap (λ (b : Bool). regions_after t (n + 1) qs (if b then ready_in (front_of q.side) (record { 0 = n }) r else r)) (sym (first_held t n f fs h q))
  where
    p : ProcessId
    p = record { 0 = n }

    by_test : (b : Bool) → q.side ≡ side_at ms (record { 0 = n }) → ((r : Regions) → all_ready ms (held_from (n + 1) fs (map was_taken qs)) r ≡ regions_after t (n + 1) qs r)
        → all_ready ms (if b then record { 0 = n } ∷ held_from (n + 1) fs (map was_taken qs) else held_from (n + 1) fs (map was_taken qs)) r
        ≡ regions_after t (n + 1) qs (if b then ready_in (front_of q.side) (record { 0 = n }) r else r)
    by_test true g k = k (ready_in (front_of (side_at ms (record { 0 = n }))) (record { 0 = n }) r) ∙ ap (λ x. regions_after t (n + 1) qs (ready_in (front_of x) (record { 0 = n }) r)) (sym g)
    by_test false g k = k r

pub held_known : (n m : ℕ) (fs : List Process) (ts : List Bool) → n + length fs ≤ m → AllByRecursion (IsKnown m) (held_from n fs ts)
held_known n m [] ts l = tt
held_known n m (f ∷ fs) [] l = tt
held_known n m (f ∷ fs) (t ∷ ts) l = by_test (is_always_comb f.kind && not t) (held_known (n + 1) m fs ts (omega (arith, l)))
  where
    by_test : (b : Bool) → AllByRecursion (IsKnown m) (held_from (n + 1) fs ts) → AllByRecursion (IsKnown m) (if b then record { 0 = n } ∷ held_from (n + 1) fs ts else held_from (n + 1) fs ts)
    by_test true k = (omega (arith, l), k)
    by_test false k = k

pub held_weight : (w : ProcessId → ℕ) (x : Bool) (t : ℕ → ProcessState → Bool) (n : ℕ) (fs : List Process) (qs : List ProcessState) → AreStates x fs qs → TestsHeld t n fs → AreHeld t n qs
    → sum_by w (held_from n fs (map was_taken qs)) ≤ parked_weight w n qs
held_weight w x t n [] qs a h k = let z : sum_by w [] ≡ 0 = refl in omega (arith, z)
held_weight w x t n (f ∷ fs) [] a h k = absurd a
held_weight w x t n (f ∷ fs) (q ∷ qs) a h k =
    by_test (is_always_comb f.kind && not q.was_taken) (λ e. first_are t n q qs k (first_held t n f fs h q ∙ e)) (held_weight w x t (n + 1) fs qs a.1 (later_held t n f fs h) (later_are t n q qs k))
  where
    by_test : (b : Bool) → (b ≡ true → q.latest ≡ Waiting Start) → sum_by w (held_from (n + 1) fs (map was_taken qs)) ≤ parked_weight w (n + 1) qs
        → sum_by w (if b then record { 0 = n } ∷ held_from (n + 1) fs (map was_taken qs) else held_from (n + 1) fs (map was_taken qs)) ≤ parked_weight w n (q ∷ qs)
    by_test true g i =
        let s = sum_by-cons w (record { 0 = n }) (held_from (n + 1) fs (map was_taken qs)) in
        let y = ap (λ (l : Status). if is_parked l then w (record { 0 = n }) else 0) (g refl) in
        omega (arith, s, i, y)
    by_test false g i = omega (arith, i)

-- ---- the process that is taken

module _ (d : Parts) (m : Machine) (p : ProcessId) (c : Config) (place : ℕ) (h : Takes d m p c place) where
  pub taken_state : (q : ProcessState) × (process_at c p ≡ Some q)
  taken_state = there c.processes p.0 (ready_known d c h.sound place p h.got)

  pub is_known : p.0 < length m.taken.items
  is_known = let k = ready_known d c h.sound place p h.got in let n = taken_count d m (taken_off place c) h.stands.picture in omega (arith, k, n)

  pub taken_few : length m.tree ≤ 2 ^ 18
  taken_few = let n = family_count d m (taken_off place c) h.stands.picture in let f = h.sound.related.few in omega (arith, n, f)

  module _ (q : ProcessState) (is : process_at c p ≡ Some q) where
    -- whether it is a starter
    abbrev pub begins : Bool
    begins = first_test starts (first_process d p)

    abbrev v : ProcessState
    v = record q { latest = Running; was_taken = true }

    -- the configuration in which it runs
    abbrev now : Config
    now = record (taken_off place c) { running = Some p; processes = slice_set c.processes p.0 v }

    pub taken_is : slice_get m.taken.items p.0 ≡ Some q.was_taken
    taken_is = ap (λ (y : Picture). slice_get y.taken p.0) h.stands.picture ∙ map_at was_taken c.processes p.0 q is

    takes_now : taken_short place p c ≡ now
    takes_now = now_is d c h.sound place p h.got q is h.idle

    calm_is : awaited_by q ≡ None
    calm_is = not_awaited q.latest (calm d c h.sound place p h.got q is h.idle)

    -- in the tree it goes on
    family_now : map member_of now.processes ≡ tree.ready_in p (map member_of c.processes)
    family_now =
        map_set member_of c.processes p.0 v
        ∙ sym (ap (λ o. tree.changed_in o (λ x. record x { over = false; join = None }) p (map member_of c.processes)) (map_at member_of c.processes p.0 q is))

    -- the tree then
    tree_then : tree.ready_in p m.tree ≡ map member_of now.processes
    tree_then = ap (λ (y : Picture). tree.ready_in p y.family) h.stands.picture ∙ sym family_now

    runs_alive : is_over_in (tree.ready_in p m.tree) p ≡ false
    runs_alive =
        ap (λ (ms : List Member). is_over_in ms p) tree_then
        ∙ ap (member_test (λ x. x.over)) (map_at member_of now.processes p.0 v (slice_get-set_same c.processes p.0 v q is))

    now_picture : of_config d now ≡ record (of_config d (taken_off place c)) { running = Some p; family = tree.ready_in p (map member_of c.processes); taken = slice_set (map was_taken c.processes) p.0 true; starters = pending_count d.processes now.processes }
    now_picture =
        let a = map_set_same rest_of c.processes p.0 q v is refl in
        let b = map_set_same awaited_by c.processes p.0 q v is (sym calm_is) in
        let k = map_set_same made_of c.processes p.0 q v is refl in
        λ i. record (of_config d now) { family = family_now i; made = k i; remaining = a i; waiting = b i; taken = map_set was_taken c.processes p.0 v i }

    starters_are : m.starters ≡ pending_count d.processes c.processes
    starters_are = ap (λ (y : Picture). y.starters) h.stands.picture

    swapped : pending_count d.processes now.processes + counts (first_process d p) q ≡ pending_count d.processes c.processes
    swapped =
        let k = pending_swap d.processes c.processes p.0 q v is in
        let z : counts (first_process d p) v ≡ 0 = ap {B = ℕ} (λ (b : Bool). if b then 1 else 0) (and_false begins) in
        omega (arith, k, z)

    -- whether it is the last starter
    last_is : is_last d place p c ≡ ((begins && not q.was_taken) && (pending_count d.processes now.processes == 0))
    last_is =
        let e : is_starter d (taken_off place c) p ≡ (begins && not q.was_taken) =
        (λ i. is_starter_of (first_process d p) (is i)) in
        λ i. e i && (waits i == 0)
      where
        waits : length (waiting_starters d (taken_short place p c)) ≡ pending_count d.processes now.processes
        waits =
            ap (λ (e : Config). length (waiting_starters d e)) takes_now
            ∙ waiting_counted d _ now (now_sound d c h.sound place p h.got q is h.idle).states

        taken_before : Option ProcessState → Bool
        taken_before None = true
        taken_before (Some q) = q.was_taken

        is_starter_of : Option Process → Option ProcessState → Bool
        is_starter_of g o = first_test starts g && not (taken_before o)

    -- where it is not the last starter
    pub begins_alone : (n : Machine) → n ≡ record m { running = Some p; tree = tree.ready_in p m.tree; taken = n.taken; starters = n.starters } → n.taken.items ≡ slice_set m.taken.items p.0 true
        → n.starters ≡ pending_count d.processes now.processes → ((begins && not q.was_taken) && (pending_count d.processes now.processes == 0)) ≡ false
        → Tracks d n (combs_started d (is_last d place p c) (taken_short place p c))
    begins_alone n e t s l =
        subst (Tracks d n) (sym ((λ i. combs_started d ((last_is ∙ l) i) (takes_now i)))) (record {
          time = ap (λ (x : Machine). x.time) e ∙ ap (λ (y : Picture). y.time) h.stands.picture;
          fault = ap (λ (x : Machine). x.fault) e ∙ h.fault;
          going = λ g. record {
            picture = ap (of_machine d) e
                ∙ (λ i. record (of_machine d m) { running = Some p; family = tree.ready_in p m.tree; taken = t i; starters = s i })
                ∙ (λ i. record (h.stands.picture i) { running = Some p; family = tree.ready_in p (h.stands.picture i).family; taken = slice_set (h.stands.picture i).taken p.0 true; starters = pending_count d.processes now.processes })
                ∙ sym now_picture;
            covers = subst (Covers d) (sym (ap (λ (x : Machine). x.sense) e)) h.stands.covers;
            alive = subst (λ (x : Machine). IsAlive x.tree x.running) (sym e) runs_alive;
            last = (let a = ap (λ (x : Machine). x.wheel.last) e in let b = ap (λ (x : Machine). x.time) e in let k = h.stands.last in omega (arith, a, b, k));
          };
        })

    -- one that was taken before
    pub begins_again : q.was_taken ≡ true → (n : Machine) → n ≡ record m { running = Some p; tree = tree.ready_in p m.tree } → Tracks d n (combs_started d (is_last d place p c) (taken_short place p c))
    begins_again w n e =
        let z : counts (first_process d p) q ≡ 0 = ap (λ (b : Bool). if b then 1 else 0) (ap (λ b. begins && not b) w ∙ and_false (begins)) in
        let k = swapped in
        let s = starters_are in
        let a = ap (λ (x : Machine). x.starters) e in
        begins_alone n
        (e ∙ (λ i. record m { running = Some p; tree = tree.ready_in p m.tree; taken = (sym e i).taken; starters = (sym e i).starters }))
        (ap (λ (x : Machine). x.taken.items) e ∙ sym (set_same m.taken.items p.0 true (taken_is ∙ ap (λ (b : Bool). Some b) w)))
        (omega (arith, a, s, k, z))
        (ap (λ b. (begins && not b) && (pending_count d.processes now.processes == 0)) w ∙ ap (λ b. b && (pending_count d.processes now.processes == 0)) (and_false begins))

    -- one that is no starter
    pub begins_other : begins ≡ false → (n : Machine) → n ≡ record m { running = Some p; tree = tree.ready_in p m.tree; taken = n.taken } → n.taken.items ≡ slice_set m.taken.items p.0 true
        → Tracks d n (combs_started d (is_last d place p c) (taken_short place p c))
    begins_other w n e t =
        let z : counts (first_process d p) q ≡ 0 = ap (λ (b : Bool). if b && not q.was_taken then 1 else 0) w in
        let k = swapped in
        let s = starters_are in
        let a = ap (λ (x : Machine). x.starters) e in
        begins_alone n (e ∙ (λ i. record m { running = Some p; tree = tree.ready_in p m.tree; taken = n.taken; starters = (sym e i).starters })) t
        (omega (arith, a, s, k, z))
        (ap (λ b. (b && not q.was_taken) && (pending_count d.processes now.processes == 0)) w)

    -- a starter counts
    pub starter_counts : begins ≡ true → q.was_taken ≡ false → m.starters ≡ pending_count d.processes now.processes + 1
    starter_counts w t =
        let z : counts (first_process d p) q ≡ 1 = λ i. if w i && not (t i) then 1 else 0 in
        let k = swapped in
        let s = starters_are in
        omega (arith, s, k, z)

    -- a starter that is not the last
    pub begins_starter : begins ≡ true → q.was_taken ≡ false → (n : Machine) → n ≡ record m { running = Some p; tree = tree.ready_in p m.tree; taken = n.taken; starters = n.starters }
        → n.taken.items ≡ slice_set m.taken.items p.0 true → n.starters + 1 ≡ m.starters → 0 < n.starters
        → Tracks d n (combs_started d (is_last d place p c) (taken_short place p c))
    begins_starter w t n e u k l =
        let s = starter_counts w t in
        let x : n.starters ≡ pending_count d.processes now.processes = omega (arith, s, k) in
        let y : (pending_count d.processes now.processes == 0) ≡ false = more (pending_count d.processes now.processes) (omega (arith, x, l)) in
        begins_alone n e u x (ap (λ b. (begins && not q.was_taken) && b) y ∙ and_false (begins && not q.was_taken))
      where
        more : (k : ℕ) → 0 < k → (k == 0) ≡ false
        more k l = grind (arith, nat_tests)

    -- ---- the last starter

    -- an `always_comb` that was not taken yet, by number and state
    abbrev test : ℕ → ProcessState → Bool
    test n q = first_test (λ f. is_always_comb f.kind) (slice_get d.processes n) && not q.was_taken

    tests : TestsHeld test 0 d.processes
    tests = record {
      at = λ i g r e. (let z : 0 + i ≡ i = omega arith in ap (λ n. test n r) z ∙ ap (λ o. first_test (λ f. is_always_comb f.kind) o && not r.was_taken) e);
      beyond = λ i r e. (let z : 0 + i ≡ i = omega arith in ap (λ n. test n r) z ∙ ap (λ o. first_test (λ f. is_always_comb f.kind) o && not r.was_taken) e);
    }

    pends : begins ≡ true → q.was_taken ≡ false → is_pending d.processes c.processes ≡ true
    pends w t = by_first (first_process d p) refl w
      where
        by_first : (o : Option Process) → first_process d p ≡ o → first_test starts o ≡ true → is_pending d.processes c.processes ≡ true
        by_first None e g = absurd (cc)
        by_first (Some f) e g = starter_pends d _ d.processes c.processes p.0 f q h.sound.states e is (λ i. g i && not (t i))

    held_are : begins ≡ true → q.was_taken ≡ false → AreHeld test 0 now.processes
    held_are w t = record { at = λ i r e g. (let z : 0 + i ≡ i = omega arith in by_first i r e (slice_get d.processes i) refl (sym (ap (λ n. test n r) z) ∙ g)) }
      where
        left : (a b : Bool) → (a && b) ≡ true → a ≡ true
        left true b h = refl
        left false b h = absurd (cc)

        by_first : (i : ℕ) (r : ProcessState) → slice_get now.processes i ≡ Some r → (o : Option Process) → slice_get d.processes i ≡ o
            → (first_test (λ f. is_always_comb f.kind) o && not r.was_taken) ≡ true → r.latest ≡ Waiting Start
        by_first i r e None x g = absurd (cc)
        by_first i r e (Some f) x g =
            (state_found _ d.processes now.processes i f r (states_then d c h.sound place p h.got q is h.idle) x e).held (pends w t) (left (is_always_comb f.kind) (not r.was_taken) g)

    sides : (i : ℕ) (r : ProcessState) → slice_get now.processes i ≡ Some r → r.side ≡ side_at (tree.ready_in p m.tree) (record { 0 = 0 + i })
    sides i r e =
        let z : 0 + i ≡ i = omega arith in
        sym (ap (λ (ms : List Member). side_of (slice_get ms (0 + i))) tree_then ∙ ap (λ k. side_of (slice_get (map member_of now.processes) k)) z ∙ ap side_of (map_at member_of now.processes i r e))

    -- those that are held may become ready
    pub then_few : length (tree.ready_in p m.tree) ≤ 2 ^ 18
    then_few =
        let n = ap (λ (ms : List Member). length ms) tree_then ∙ length-map now.processes member_of in
        let f = (now_sound d c h.sound place p h.got q is h.idle).related.few in
        omega (arith, n, f)

    pub then_known : (ts : List Bool) → AllByRecursion (IsKnown (length (tree.ready_in p m.tree))) (held_from 0 d.processes ts)
    then_known ts =
        let n = ap (λ (ms : List Member). length ms) tree_then ∙ length-map now.processes member_of in
        let l = all_there d now (now_sound d c h.sound place p h.got q is h.idle) in
        held_known 0 (length (tree.ready_in p m.tree)) d.processes ts (omega (arith, n, l))

    pub held_room : begins ≡ true → q.was_taken ≡ false → (w : ProcessId → ℕ)
        → sum_by w (standing m.regions) + sum_by w (held_from 0 d.processes (slice_set m.taken.items p.0 true)) ≤ weight_of_all w (tree.ready_in p m.tree)
    held_room s t w =
        let a = (now_sound d c h.sound place p h.got q is h.idle).weights w in
        let k = held_weight w _ test 0 d.processes now.processes (states_then d c h.sound place p h.got q is h.idle) tests (held_are s t) in
        let e = ap (λ (y : Picture). sum_by w (standing y.regions)) h.stands.picture in
        let f = ap (λ (ms : List Member). weight_of_all w ms) tree_then ∙ ap (sum_by w) (numbers_map member_of 0 now.processes) in
        let g = ap (λ (y : Picture). sum_by w (held_from 0 d.processes (slice_set y.taken p.0 true))) h.stands.picture
        ∙ ap (λ (ts : List Bool). sum_by w (held_from 0 d.processes ts)) (sym (map_set was_taken c.processes p.0 v)) in
        omega (arith, a, k, e, f, g)

    pub begins_last : begins ≡ true → q.was_taken ≡ false → (n : Machine) → n ≡ record m { running = Some p; tree = tree.ready_in p m.tree; taken = n.taken; starters = n.starters; regions = n.regions }
        → n.taken.items ≡ slice_set m.taken.items p.0 true → n.starters + 1 ≡ m.starters → n.starters ≡ 0
        → n.regions ≡ all_ready (tree.ready_in p m.tree) (held_from 0 d.processes (slice_set m.taken.items p.0 true)) m.regions
        → Tracks d n (combs_started d (is_last d place p c) (taken_short place p c))
    begins_last w t n e u k l r =
        let s = starter_counts w t in
        let x : n.starters ≡ pending_count d.processes now.processes = omega (arith, s, k) in
        let y : (pending_count d.processes now.processes == 0) ≡ true = ap (λ j. j == 0) (sym x ∙ l) in
        let one : is_last d place p c ≡ true = last_is ∙ (λ i. (w i && not (t i)) && y i) in
        let started : Config = record now { processes = states_after test 0 now.processes; regions = regions_after test 0 now.processes now.regions } in
        let f : ProcessId → Bool = λ p. state_test (λ q. first_test (λ f. is_always_comb f.kind) (first_process d p) && not q.was_taken) (process_at now p) in
        let all : all_made_ready (held_combs d now) now ≡ started =
        readied_are f test now (record { at = λ i q e. (let z : 0 + i ≡ i = omega arith in ap (λ m. f (record { 0 = m })) z ∙ ap (state_test (λ q. test i q)) e ∙ sym (ap (λ m. test m q) z)) }) in
        let ts : slice_set m.taken.items p.0 true ≡ map was_taken now.processes =
        ap (λ (y : Picture). slice_set y.taken p.0 true) h.stands.picture ∙ sym (map_set was_taken c.processes p.0 v) in
        let rs : all_ready (tree.ready_in p m.tree) (held_from 0 d.processes (slice_set m.taken.items p.0 true)) m.regions ≡ started.regions =
        (λ i. all_ready (tree.ready_in p m.tree) (held_from 0 d.processes (ts i)) (h.stands.picture i).regions)
        ∙ held_ready (tree.ready_in p m.tree) _ test 0 d.processes now.processes (states_then d c h.sound place p h.got q is h.idle) tests sides now.regions in
        let fam = family_stays test 0 now.processes (λ i r e g. (let x = (held_are w t).at i r e g in (ap is_ended x, ap join_of x))) in
        let a = rest_stays test 0 now.processes in
        let b = waits_stay test 0 now.processes (held_are w t) in
        let o = taken_stays test 0 now.processes in
        let j = pending_by_taken d.processes now.processes started.processes o in
        let z = made_stays test 0 now.processes in
        subst (Tracks d n) (sym ((λ i. combs_started d (one i) (takes_now i)) ∙ all)) (record {
          time = ap (λ (x : Machine). x.time) e ∙ ap (λ (y : Picture). y.time) h.stands.picture;
          fault = ap (λ (x : Machine). x.fault) e ∙ h.fault;
          going = λ g. record {
            picture = ap (of_machine d) e
                ∙ (λ i. record (of_machine d m) { running = Some p; family = tree.ready_in p m.tree; taken = u i; starters = x i; regions = (r ∙ rs) i })
                ∙ (λ i. record (h.stands.picture i) { running = Some p; family = tree.ready_in p (h.stands.picture i).family; taken = slice_set (h.stands.picture i).taken p.0 true; starters = pending_count d.processes now.processes; regions = started.regions })
                ∙ (λ i. record (sym now_picture i) { regions = started.regions })
                ∙ (λ i. record (of_config d started) { family = sym fam i; made = sym z i; remaining = sym a i; waiting = sym b i; taken = sym o i; starters = sym j i });
            covers = subst (Covers d) (sym (ap (λ (x : Machine). x.sense) e)) h.stands.covers;
            alive = subst (λ (x : Machine). IsAlive x.tree x.running) (sym e) runs_alive;
            last = (let a = ap (λ (x : Machine). x.wheel.last) e in let b = ap (λ (x : Machine). x.time) e in let k = h.stands.last in omega (arith, a, b, k));
          };
        })
