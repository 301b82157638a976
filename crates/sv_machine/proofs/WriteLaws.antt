-- What a write makes of the machine and of the configuration for which it stands.
use Rattle.std.proofs.Common.{ℕ, ◌≡◌, ◌≢◌, ◌+◌, ◌≤◌, ◌^◌, Bool, true, false, List, [], ◌∷◌, Option, None, Some, refl, ap, subst, sym, ◌∙◌, arith, length, map}
use Rattle.std.specs.Prelude.{Ok, Result, IsNone, ◌==◌, if◌then◌else◌, sum_by}
use Rattle.std.specs.List.{AllByRecursion}
use Rattle.std.proofs.lemmas.List.Sums.{sum_by-cons}
use Rattle.std.proofs.lemmas.Bool.Decides.{nat_tests}
use Rattle.sv_value.specs.declared.number.ObjId.{ObjId}
use Rattle.sv_value.specs.declared.number.ProcessId.{ProcessId}
use Rattle.sv_value.specs.declared.schedule.ObjectTarget.{ObjectTarget}
use Rattle.sv_value.specs.declared.val.Val.{Val}
use Rattle.sv_value.specs.declared.schedule.Range.{Range}
use Rattle.sv_value.specs.Regions.{standing}
use Rattle.sv_flat.specs.declared.design.Parts.{Parts}
use Rattle.sv_flat.specs.State.{Store, World, Name, Activation, activation, activation_out, variable_of, value_at}
use Rattle.sv_flat.specs.Process.{ProcessState, Status, no_place}
use Rattle.sv_flat.specs.Effects.{write_occurred}
use Rattle.sv_flat.specs.Steps.{job_spot, updates_written}
use Rattle.sv_value.specs.declared.schedule.Update.{Update}
use Rattle.sv_value.specs.declared.place.FaultKind.{FaultKind}
use Rattle.sv_flat.specs.Config.{Config, unit_ticks, seen}
use Rattle.sv_flat.specs.Effects.Writes.{wrote, variable_over}
use Rattle.sv_built.specs.Built.{IsBuilt}
use Rattle.sv_built.specs.Waits.{watches_at}
use Rattle.sv_sound.specs.Sound.{IsSound, weight_of_all, is_parked, parked_weight}
use Rattle.sv_sound.specs.After.{with_values, changed_in, changed_to, varied_to, store_after}
use Rattle.sv_flat.specs.Config.{all_made_ready}
use Rattle.sv_sound.proofs.Wakes.{states_after, regions_after, woken_in, change_states, write_is, none_woken as none_woken_by}
use Rattle.sv_sound.proofs.Waits.{quiet}
use Rattle.sv_sound.proofs.Changes.{await_built, change_sound, store_sound}
use Rattle.sv_store.specs.declared.change.Overwritten.{Overwritten}
use Rattle.sv_store.specs.Overwrites.{object_before, value_before}
use Rattle.sv_assign.specs.Seen.{world_in, view_in, variable_before}
use Rattle.sv_assign.proofs.SeenLaws.{view_before-is, variable_before-is, view_in-same}
use Rattle.sv_sense.specs.declared.waiter.Waiter.{Waiter}
use Rattle.sv_sense.specs.Wakes.{Scenes, fires_at, woken_from, waits_after}
use Rattle.sv_sense.specs.Sensed.{Sensed, Covers}
use Rattle.sv_sense.proofs.BuiltLaws.{wait_built}
use Rattle.sv_sense.proofs.SenseLaws.{none_hear}
use Rattle.sv_machine.specs.declared.machine.Machine.{Machine}
use Rattle.sv_machine.specs.Waits.{awaited_at, awaited_by}
use Rattle.sv_machine.specs.Machine.{Picture, of_machine, of_config, IsAlive, Tracks, StandsFor, IsAt, Makes, SameButValues}
use Rattle.sv_machine.specs.Wakes.{all_ready, waits_weight, IsKnown, Wakes}
use Rattle.sv_machine.proofs.WakeLaws.{Sees, Tests, seen_is, awaited_some, waits_agree, regions_agree, woken_waits, family_stays, rest_stays, taken_stays, made_stays, pending_by_taken}
use Rattle.sv_machine.proofs.FamilyLaws.{family_count, family_few, family_weight, waits_count, side_from}

-- ---- who is woken

module _ (t : Option Waiter → Bool) (no : t None ≡ false) where
  pub woken_weight : (w : ProcessId → ℕ) (n : ℕ) (ws : List (Option Waiter)) → sum_by w (woken_from t n ws) ≤ waits_weight w n ws
  woken_weight w n [] = let z : sum_by w [] ≡ 0 = refl in omega (arith, z)
  woken_weight w n (None ∷ ws) =
      let k = woken_weight w (n + 1) ws in
      let e = ap (λ (b : Bool). sum_by w (if b then record { 0 = n } ∷ woken_from t (n + 1) ws else woken_from t (n + 1) ws)) no in
      omega (arith, k, e)
  woken_weight w n (Some x ∷ ws) = by_test (t (Some x)) (woken_weight w (n + 1) ws)
    where
      by_test : (b : Bool) → sum_by w (woken_from t (n + 1) ws) ≤ waits_weight w (n + 1) ws
          → sum_by w (if b then record { 0 = n } ∷ woken_from t (n + 1) ws else woken_from t (n + 1) ws) ≤ w (record { 0 = n }) + waits_weight w (n + 1) ws
      by_test true k = let s = sum_by-cons w (record { 0 = n }) (woken_from t (n + 1) ws) in omega (arith, s, k)
      by_test false k = omega (arith, k)

pub woken_known : (t : Option Waiter → Bool) (n m : ℕ) (ws : List (Option Waiter)) → n + length ws ≤ m → AllByRecursion (IsKnown m) (woken_from t n ws)
woken_known t n m [] l = tt
woken_known t n m (x ∷ ws) l = by_test (t x) (woken_known t (n + 1) m ws (omega (arith, l)))
  where
    by_test : (b : Bool) → AllByRecursion (IsKnown m) (woken_from t (n + 1) ws) → AllByRecursion (IsKnown m) (if b then record { 0 = n } ∷ woken_from t (n + 1) ws else woken_from t (n + 1) ws)
    by_test true k = (omega (arith, l), k)
    by_test false k = k

-- where the test holds for none, nothing changes
pub none_left : (t : Option Waiter → Bool) → ((w : Option Waiter) → t w ≡ false) → (ws : List (Option Waiter)) → waits_after t ws ≡ ws
none_left t h [] = refl
none_left t h (w ∷ ws) = λ i. (if h w i then None else w) ∷ none_left t h ws i

pub none_woken : (t : Option Waiter → Bool) → ((w : Option Waiter) → t w ≡ false) → (n : ℕ) (ws : List (Option Waiter)) → woken_from t n ws ≡ []
none_woken t h n [] = refl
none_woken t h n (w ∷ ws) = ap (λ (b : Bool). if b then record { 0 = n } ∷ woken_from t (n + 1) ws else woken_from t (n + 1) ws) (h w) ∙ none_woken t h (n + 1) ws

-- ---- what is written

the_same : {a b : World} → ◌≡◌ {A = Result World FaultKind} (Ok a) (Ok b) → a ≡ b
the_same e = cc

pub store_is : (t : ObjectTarget) (x : Val) (old new : Store) → ((w : World) → w.store ≡ old → wrote (job_spot t) x w ≡ Ok (record w { store = new })) → new ≡ store_after (job_spot t) x old
store_is t x old new h =
    let e : Ok (record (world_in old []) { store = new }) ≡ Ok (record (world_in old []) { store = store_after (job_spot t) x old }) =
    sym (h (world_in old []) refl) in
    ap (λ (w : World). w.store) (the_same e)

-- ---- what the machine stands for then

-- the same but for what is written, and for those whom it wakes
pub record Written (d : Parts) (m n : Machine) (s : Store) (as' : List Activation) (t : Option Waiter → Bool) : Type 0 where
  pub is : n ≡ record m { store = s; activations = record m.activations { activations = as' }; sense = n.sense; regions = n.regions }
  pub waits : n.sense.waits ≡ waits_after t m.sense.waits
  pub regions : n.regions ≡ all_ready m.tree (woken_from t 0 m.sense.waits) m.regions
  pub covers : Covers d n.sense

-- what is seen before
pub seen_before : (d : Parts) (m : Machine) (c : Config) → StandsFor d m c → (scope : Option Name)
    → seen d c scope ≡ view_in m.store m.activations.activations m.time (unit_ticks d.scale) scope
seen_before d m c h scope = seen_is d c h.sound scope ∙ ap (λ (p : Picture). view_in p.store p.activations p.time (unit_ticks d.scale) scope) (sym h.stands.picture)

module _ (d : Parts) (m : Machine) (c : Config) (h : StandsFor d m c) (s : Store) (as' : List Activation) where
  abbrev pub u : ℕ
  u = unit_ticks d.scale

  same : of_machine d m ≡ of_config d c
  same = h.stands.picture

  -- all that has a value then
  abbrev pub values : World
  values = record c.world { store = s; activations = as' }

  -- what is seen after
  pub seen_after : (scope : Option Name) → seen d (with_values values c) scope ≡ view_in s as' m.time u scope
  seen_after scope =
      (λ i. seen d (with_values (record values { heap = h.sound.no_heap i }) c) scope)
      ∙ ap (λ (p : Picture). view_in s as' p.time u scope) (sym same)

  module _ (t : Option Waiter → Bool) (old new : Scenes) (tests : Tests d t old new) (sees : Sees d c values old new) (n : Machine) (w : Written d m n s as' t) where
    waits_are : map (awaited_at d) (waits_after t m.sense.waits) ≡ map awaited_by (states_after (woken_in d c values) 0 c.processes)
    waits_are = waits_agree d c values old new sees t tests 0 c.processes m.sense.waits (ap (λ (p : Picture). p.waiting) same)

    regions_are : all_ready m.tree (woken_from t 0 m.sense.waits) m.regions ≡ regions_after (woken_in d c values) 0 c.processes c.regions
    regions_are =
        regions_agree d c values old new sees t tests m.tree 0 c.processes m.sense.waits (ap (λ (p : Picture). p.waiting) same) (side_from d m c same) m.regions
        ∙ ap (λ (p : Picture). regions_after (woken_in d c values) 0 c.processes p.regions) same

    abbrev pub shown : Config
    shown = record (with_values values c) { processes = states_after (woken_in d c values) 0 c.processes; regions = regions_after (woken_in d c values) 0 c.processes c.regions }

    machine_is : of_machine d n
        ≡ record (of_machine d m) { store = s; activations = as'; waiting = map (awaited_at d) (waits_after t m.sense.waits); regions = all_ready m.tree (woken_from t 0 m.sense.waits) m.regions }
    machine_is =
        ap (of_machine d) w.is
        ∙ (λ i. record (of_machine d m) { store = s; activations = as'; waiting = map (awaited_at d) (w.waits i); regions = w.regions i })

    config_is : record (of_config d c) { store = s; activations = as'; waiting = map awaited_by shown.processes; regions = shown.regions } ≡ of_config d shown
    config_is =
        let a = sym (rest_stays (woken_in d c values) 0 c.processes) in
        let t = sym (taken_stays (woken_in d c values) 0 c.processes) in
        let k = sym (made_stays (woken_in d c values) 0 c.processes) in
        let e = sym (pending_by_taken d.processes c.processes (states_after (woken_in d c values) 0 c.processes) (taken_stays (woken_in d c values) 0 c.processes)) in
        let f = sym (family_stays (woken_in d c values) 0 c.processes (λ i q g x. woken_waits d c values (0 + i) q x)) in
        λ i. record (of_config d shown) { family = f i; made = k i; remaining = a i; taken = t i; starters = e i }

    picture_is : of_machine d n ≡ of_config d shown
    picture_is =
        machine_is ∙ (λ i. record (same i) { store = s; activations = as'; waiting = waits_are i; regions = regions_are i }) ∙ config_is

    pub changed_tracks : Tracks d n (changed_in d values c)
    changed_tracks = subst (Tracks d n) (sym (change_states d values c)) (record {
      time = ap (λ (x : Machine). x.time) w.is ∙ ap (λ (p : Picture). p.time) same;
      fault = ap (λ (x : Machine). x.fault) w.is ∙ h.fault;
      going = λ g. record {
        picture = picture_is;
        covers = w.covers;
        alive = subst (λ (x : Machine). IsAlive x.tree x.running) (sym w.is) h.stands.alive;
        last = (let e = ap (λ (x : Machine). x.wheel.last) w.is in let f = ap (λ (x : Machine). x.time) w.is in let k = h.stands.last in omega (arith, e, f, k));
      };
    })

-- ---- what a write leaves

same_views : (d : Parts) → IsBuilt d → (v : Scenes) (w : Option Waiter) → fires_at d v v w ≡ false
same_views d b v None = refl
same_views d b v (Some w) = quiet (watches_at d w.wait) (wait_built d b w.wait) (v w.scope)

-- who waits for a change is parked
parked_weighs : (d : Parts) (w : ProcessId → ℕ) (n : ℕ) (ws : List (Option Waiter)) (qs : List ProcessState) → map (awaited_at d) ws ≡ map awaited_by qs → waits_weight w n ws ≤ parked_weight w n qs
parked_weighs d w n [] [] e = omega arith
parked_weighs d w n [] (q ∷ qs) e = absurd (cc)
parked_weighs d w n (x ∷ ws) [] e = absurd (cc)
parked_weighs d w n (None ∷ ws) (q ∷ qs) e =
    let rest : map (awaited_at d) ws ≡ map awaited_by qs = cc in
    let k = parked_weighs d w (n + 1) ws qs rest in
    omega (arith, k)
parked_weighs d w n (Some x ∷ ws) (q ∷ qs) e =
    let rest : map (awaited_at d) ws ≡ map awaited_by qs = cc in
    let first : awaited_by q ≡ awaited_at d (Some x) = cc in
    let k = parked_weighs d w (n + 1) ws qs rest in
    let s = ap (λ (s : Status). if is_parked s then w (record { 0 = n }) else 0) (awaited_some (record { watches = watches_at d x.wait; scope = x.scope }) q.latest first) in
    omega (arith, k, s)

-- there is room for those who are woken
pub wake_room : (d : Parts) (m : Machine) → IsAt d m → (w : ProcessId → ℕ) → sum_by w (standing m.regions) + waits_weight w 0 m.sense.waits ≤ weight_of_all w m.tree
wake_room d m h w =
    let c = h.config in
    let same : of_machine d m ≡ of_config d c = h.stands.stands.picture in
    let k = parked_weighs d w 0 m.sense.waits c.processes (ap (λ (p : Picture). p.waiting) same) in
    let r = ap (λ (p : Picture). sum_by w (standing p.regions)) same in
    let a = h.stands.sound.weights w in
    let f = family_weight d m c same w in
    omega (arith, k, r, a, f)

pub wake_count : (d : Parts) (m : Machine) → IsAt d m → length m.sense.waits ≡ length m.tree
wake_count d m h = waits_count d m h.config h.stands.stands.picture ∙ sym (family_count d m h.config h.stands.stands.picture)

pub wake_few : (d : Parts) (m : Machine) → IsAt d m → length m.tree ≤ 2 ^ 18
wake_few d m h = family_few d m h.config h.stands.stands.picture h.stands.sound

pub at_covers : (d : Parts) (m : Machine) → IsAt d m → Covers d m.sense
at_covers d m h = h.stands.stands.covers

-- what is written
pub record Wrote (m n : Machine) (t : ObjectTarget) (x : Val) : Type 0 where
  pub is : SameButValues m n
  pub wrote : (w : World) → w.store ≡ m.store → wrote (job_spot t) x w ≡ Ok (record w { store = n.store })

-- a write, and the change that it makes
abbrev pub written : Parts → ObjectTarget → Val → Config → Config
written d t x c = changed_to d (store_after (job_spot t) x c.store) c

module _ (d : Parts) (b : IsBuilt d) (m n : Machine) (tg : ObjectTarget) (x : Val) (h : Wrote m n tg x) where
  becomes : (c : Config) → StandsFor d m c → n.store ≡ store_after (job_spot tg) x c.store
  becomes c k = store_is tg x m.store n.store h.wrote ∙ ap (λ (p : Picture). store_after (job_spot tg) x p.store) k.stands.picture

  -- what each scope sees afterwards
  abbrev pub now_seen : Scenes
  now_seen = λ scope. view_in n.store m.activations.activations m.time (unit_ticks d.scale) scope

  -- and before
  abbrev pub then_seen : Overwritten → Scenes
  then_seen w = λ scope. record (now_seen scope) { object = object_before w n.store }

  -- the machine tells the activations of the configuration
  told_by : (c : Config) → StandsFor d m c → SameButValues m n
      → n ≡ record m { store = n.store; activations = record m.activations { activations = c.activations }; sense = n.sense; regions = n.regions }
  told_by c a e =
      e ∙ (λ i. record m { store = n.store; activations = record m.activations { activations = (a.stands.picture i).activations }; sense = n.sense; regions = n.regions })

  pub wrote_some : (w : Overwritten) → ((o : ObjId) (j : ℕ) → value_at m.store o j ≡ object_before w n.store o j)
      → Wakes d m.tree (then_seen w) now_seen m.sense m.regions n.sense n.regions → Makes d m n (written d tg x)
  wrote_some w told k c a =
      let u = unit_ticks d.scale in
      let as' = c.activations in
      subst (λ s. Tracks d n (changed_to d s c)) (becomes c a)
      (changed_tracks d m c a n.store as' (fires_at d (then_seen w) now_seen) (then_seen w) now_seen (record { none = refl; some = λ w. refl })
      (record {
        before = λ scope. seen_before d m c a scope ∙ sym (view_before-is w m.store n.store m.activations.activations m.time u scope told);
        after = λ scope. seen_after d m c a n.store as' scope ∙ ap (λ (p : Picture). view_in n.store p.activations m.time u scope) (sym a.stands.picture);
      })
      n (record { is = told_by c a h.is; waits = k.waits; regions = k.regions; covers = k.covers }))

  pub wrote_none : ((o : ObjId) (j : ℕ) → value_at n.store o j ≡ value_at m.store o j) → n.sense ≡ m.sense → n.regions ≡ m.regions → Makes d m n (written d tg x)
  wrote_none told s r c a =
      let u = unit_ticks d.scale in
      let as' = c.activations in
      let t : Option Waiter → Bool = fires_at d now_seen now_seen in
      let none : (w : Option Waiter) → t w ≡ false = same_views d b now_seen in
      subst (λ s. Tracks d n (changed_to d s c)) (becomes c a)
      (changed_tracks d m c a n.store as' t now_seen now_seen (record { none = refl; some = λ w. refl })
      (record {
        before = λ scope. seen_before d m c a scope ∙ sym (view_in-same m.store n.store m.activations.activations m.time u scope told);
        after = λ scope. seen_after d m c a n.store as' scope ∙ ap (λ (p : Picture). view_in n.store p.activations m.time u scope) (sym a.stands.picture);
      })
      n (record {
        is = told_by c a h.is;
        waits = ap (λ (s : Sensed). s.waits) s ∙ sym (none_left t none m.sense.waits);
        regions = r ∙ ap (λ (ps : List ProcessId). all_ready m.tree ps m.regions) (sym (none_woken t none 0 m.sense.waits));
        covers = subst (Covers d) (sym s) a.stands.covers;
      }))

-- ---- variables of activations, and what is nowhere

module _ (d : Parts) (m n : Machine) (v : Name) (i : ℕ) (r : Option Range) (x : Val) where
  -- the activations afterwards
  abbrev pub varied : List Activation
  varied = variable_over v i r x m.activations.activations

  -- what each scope sees of them
  abbrev pub sees_varied : Scenes
  sees_varied = λ scope. view_in m.store varied m.time (unit_ticks d.scale) scope

  -- what each scope saw before
  abbrev pub saw : Scenes
  saw = λ scope. view_in m.store m.activations.activations m.time (unit_ticks d.scale) scope

  -- the same, as the old value tells it
  abbrev pub saw_value : Val → Scenes
  saw_value old = λ scope. record (sees_varied scope) { variable = λ up j. variable_before v i old (activation_out varied up scope) j }

  -- nothing is new but a variable, and with it waits and regions
  abbrev pub IsVaried : Type 0
  IsVaried = n ≡ record m { activations = record m.activations { activations = varied }; sense = n.sense; regions = n.regions }

  module _ (is : IsVaried) (old : Scenes) (was : (scope : Option Name) → old scope ≡ saw scope) where
    pub varied_makes : n.sense.waits ≡ waits_after (fires_at d old sees_varied) m.sense.waits
        → n.regions ≡ all_ready m.tree (woken_from (fires_at d old sees_varied) 0 m.sense.waits) m.regions → Covers d n.sense
        → Makes d m n (λ c. varied_to d (variable_over v i r x c.activations) c)
    varied_makes waits regions covers c a =
        let now : List Activation = variable_over v i r x c.activations in
        let same = ap (λ (p : Picture). variable_over v i r x p.activations) a.stands.picture in
        let store = ap (λ (p : Picture). p.store) a.stands.picture in
        let u = unit_ticks d.scale in
        changed_tracks d m c a c.store now (fires_at d old sees_varied) old sees_varied (record { none = refl; some = λ w. refl })
        (record {
          before = λ scope. seen_before d m c a scope ∙ sym (was scope);
          after = λ scope. seen_after d m c a c.store now scope ∙ (λ j. view_in (sym store j) (sym same j) m.time u scope);
        })
        n (record {
          is = is ∙ (λ j. record m { store = store j; activations = record m.activations { activations = same j }; sense = n.sense; regions = n.regions });
          waits = waits;
          regions = regions;
          covers = covers;
        })

  -- those are woken whom the change wakes
  pub varied_wakes : IsVaried → (old : Val) → old ≡ variable_of (activation m.activations.activations v) i
      → Wakes d m.tree (saw_value old) sees_varied m.sense m.regions n.sense n.regions → Makes d m n (λ c. varied_to d (variable_over v i r x c.activations) c)
  varied_wakes is old e k =
      varied_makes is (saw_value old) (λ scope. variable_before-is v i r x old m.store m.activations.activations m.time (unit_ticks d.scale) scope e) k.waits k.regions k.covers

  -- where nobody watches variables, nobody is woken
  pub varied_calm : IsBuilt d → IsVaried → n.sense ≡ m.sense → n.regions ≡ m.regions → m.sense.scoped ≡ [] → Covers d m.sense
      → Makes d m n (λ c. varied_to d (variable_over v i r x c.activations) c)
  varied_calm b is s g none covers =
      let k = none_hear d b m.sense covers none saw sees_varied (λ scope. record { object = refl; now = refl; unit = refl }) in
      varied_makes is saw (λ scope. refl) (ap (λ (s : Sensed). s.waits) s ∙ sym k.0)
      (g ∙ ap (λ (ps : List ProcessId). all_ready m.tree ps m.regions) (sym k.1)) (subst (Covers d) (sym s) covers)

pub nothing_makes : (d : Parts) (m : Machine) → Makes d m m (λ c. changed_to d c.store c)
nothing_makes d m c a =
    subst (Tracks d m) (sym (ap (λ (ps : List ProcessId). all_made_ready ps c) (none_woken_by d c c refl refl (await_built d c a.sound))))
    (record { time = ap (λ (x : Picture). x.time) a.stands.picture; fault = a.fault; going = λ g. a.stands })

-- ---- one after another

-- what a machine stands for after a part of a step
pub carried : (d : Parts) (m n : Machine) (f : Config → Config) → (h : IsAt d m) → Makes d m n f → IsSound d (f h.config) → IsNone (f h.config).fault → IsAt d n
carried d m n f h k s g =
    let t = k h.config h.stands in
    record { config = f h.config; stands = record { sound = s; going = g; fault = t.fault; stands = t.going g } }

pub both_make : (d : Parts) (m n l : Machine) (f g : Config → Config) → ((c : Config) → StandsFor d m c → StandsFor d n (f c)) → Makes d n l g → Makes d m l (λ c. g (f c))
both_make d m n l f g h k c a = k (f c) (h c a)

pub written_stands : (d : Parts) (m n : Machine) (t : ObjectTarget) (x : Val) → Makes d m n (written d t x) → (c : Config) → StandsFor d m c → StandsFor d n (written d t x c)
written_stands d m n t x k c a =
    let s = store_after (job_spot t) x c.store in
    let g : IsNone (changed_to d s c).fault = subst (λ (e : Config). IsNone e.fault) (sym (change_states d (record c.world { store = s }) c)) a.going in
    let r = k c a in
    record { sound = change_sound d (record c.world { store = s }) c a.sound (store_sound d c a.sound s); going = g; fault = r.fault; stands = r.going g }

pub written_at : (d : Parts) (m n : Machine) (t : ObjectTarget) (x : Val) → Makes d m n (written d t x) → IsAt d m → IsAt d n
written_at d m n t x k h = record { config = written d t x h.config; stands = written_stands d m n t x k h.config h.stands }

-- an update of a job
pub update_is : (d : Parts) → IsBuilt d → (u : Update) (c : Config) → write_occurred d no_place (job_spot u.target) u.value c ≡ written d u.target u.value c
update_is d b u c = write_is d b.no_clockings no_place (job_spot u.target) tt u.value c

pub updates_make : (d : Parts) → IsBuilt d → (u : Update) (us : List Update) (m n l : Machine) → Makes d m n (written d u.target u.value) → Makes d n l (updates_written d us)
    → Makes d m l (updates_written d (u ∷ us))
updates_make d b u us m n l h k c a =
    subst (λ e. Tracks d l (updates_written d us e)) (sym (update_is d b u c)) (k (written d u.target u.value c) (written_stands d m n u.target u.value h c a))
