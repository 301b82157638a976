-- What forks and `wait fork` make of the machine and of the configuration for which it stands.
use Rattle.std.proofs.Common.{ℕ, zero, suc, ◌≡◌, ◌+◌, ◌<◌, ◌≤◌, ◌^◌, Bool, true, false, List, [], ◌∷◌, ◌++◌, Option, None, Some, refl, ap, subst, sym, ◌∙◌, arith, length, map, slice_get, slice_set}
use Rattle.std.specs.Prelude.{◌&&◌, IsNone, get_or, is_some, nat_lt, sum_by, if◌then◌else◌}
use Rattle.std.specs.List.{Contains, list_all}
use Rattle.std.proofs.lemmas.Bool.Decides.{nat_tests}
use Rattle.std.proofs.lemmas.Option.{slice_get-get_or}
use Rattle.std.proofs.lemmas.List.{append-nil, append_assoc, length-map, map-append}
use Rattle.sv_value.specs.declared.number.ProcessId.{ProcessId}
use Rattle.sv_value.specs.declared.number.RoutineId.{RoutineId}
use Rattle.sv_value.specs.declared.place.Place.{Place}
use Rattle.sv_value.specs.declared.place.FaultKind.TheVariants as fault
use Rattle.sv_value.specs.Regions.{standing, ready_in, front_of}
use Rattle.sv_flat.specs.declared.process.Process.{Process}
use Rattle.sv_flat.specs.declared.stmt.Stmt.{Stmt}
use Rattle.sv_flat.specs.declared.object.Declared.{Declared}
use Rattle.sv_flat.specs.declared.stmt.Form.{Form}
use Rattle.sv_flat.specs.declared.stmt.Form.TheVariants as form
use Rattle.sv_flat.specs.declared.stmt.JoinKind.{JoinKind}
use Rattle.sv_flat.specs.declared.stmt.JoinKind.TheVariants as join
use Rattle.sv_flat.specs.declared.design.Parts.{Parts}
use Rattle.sv_flat.specs.State.{Name}
use Rattle.sv_flat.specs.Process.{ProcessState, Waiting, Children, body_in}
use Rattle.sv_flat.specs.Config.{Config, process_at, met_fault}
use Rattle.sv_flat.specs.Effects.Ends.{living_children}
use Rattle.sv_flat.specs.Effects.Scheduling.{awaiting, child_of, children_from, joining, spawned, started, suspended}
use Rattle.sv_built.specs.Built.{IsBuilt}
use Rattle.sv_sound.specs.Sound.{pending_count}
use Rattle.sv_sound.specs.After.{with_child}
use Rattle.sv_sound.proofs.Weights.{map_at, not_contained, one, there, within}
use Rattle.sv_sound.proofs.Changes.{all_there, known}
use Rattle.sv_sound.proofs.Related.{get_before, get_none}
use Rattle.sv_sound.proofs.Forks.{all_started, child_sound, suspends_is}
use Rattle.sv_fork.specs.Tree.{Join, Member, awaiting_in, changed_in, child_in, is_living_child, is_over_in, living_children_in, member_of, member_test, side_of, started_in}
use Rattle.sv_fork.proofs.ConfigLaws.{all_live_on, child_lives, children_are, started_is}
use Rattle.sv_stack.specs.Effects.{spawn_at, spawn_of}
use Rattle.sv_stack.specs.Frames.{todos_of}
use Rattle.sv_machine.specs.declared.machine.Machine.{Machine}
use Rattle.sv_machine.specs.Waits.{awaited_at, awaited_by}
use Rattle.sv_machine.specs.Machine.{Picture, of_machine, of_config, IsAlive, Tracks, StandsFor, IsAt, Makes, rest_of, was_taken, made_of}
use Rattle.sv_machine.specs.Forks.{ChildrenOf, HasChild, HasNone, Starts, forked_in, joined_in, joining_in, spawned_in}
use Rattle.sv_machine.proofs.FamilyLaws.{family_is, family_count}
use Rattle.sv_machine.proofs.EffectLaws.{running_is, state_is, lives, state_picture, rest_stays, waits_stay, fail_tracks}

-- ---- a child more

pub pending_longer : (fs : List Process) (qs : List ProcessState) (v : ProcessState) → length fs ≤ length qs → pending_count fs (qs ++ v ∷ []) ≡ pending_count fs qs
pending_longer [] [] v l = refl
pending_longer [] (q ∷ qs) v l = refl
pending_longer (f ∷ fs) [] v l = absurd (omega (arith, l))
pending_longer (f ∷ fs) (q ∷ qs) v l = let e = pending_longer fs qs v (omega (arith, l)) in omega (arith, e)

-- no process has the next number
pub fresh_absent : (d : Parts) (m : Machine) → IsAt d m → Contains (standing m.regions) (record { 0 = length m.tree }) → ⊥
fresh_absent d m h = not_contained p (standing m.regions) (by_weight (sum_by (one p) (standing m.regions)) refl)
  where
    p : ProcessId
    p = record { 0 = length m.tree }

    by_weight : (k : ℕ) → sum_by (one p) (standing m.regions) ≡ k → sum_by (one p) (standing m.regions) ≡ 0
    by_weight zero e = e
    by_weight (suc k) e =
        let s = ap (λ (x : Picture). sum_by (one p) (standing x.regions)) h.stands.stands.picture in
        let l = known d h.config h.stands.sound p (omega (arith, e, s)) in
        let n = family_count d m h.config h.stands.stands.picture in
        absurd (omega (arith, l, n))

module _ (d : Parts) (b : IsBuilt d) (m : Machine) (c : Config) (h : StandsFor d m c) (p : ProcessId) (r : m.running ≡ Some p) (q : ProcessState) (is : process_at c p ≡ Some q)
    (s : RoutineId) (scope : Option Name) where
  abbrev v : ProcessState
  v = child_of d p s scope q

  abbrev grown : Config
  grown = with_child d p q s scope c

  same : of_machine d m ≡ of_config d c
  same = h.stands.picture

  here : slice_get (map member_of c.processes) p.0 ≡ Some (member_of q)
  here = map_at member_of c.processes p.0 q is

  pub still_there : process_at grown p ≡ Some q
  still_there = get_before c.processes p.0 v (within c.processes p.0 q is) ∙ is

  grown_picture : record (of_config d c) {
    family = started_in p (slice_get (map member_of c.processes) p.0) (map member_of c.processes);
    made = map made_of c.processes ++ 0 ∷ [];
    remaining = map rest_of c.processes ++ body_in d s scope ∷ [];
    waiting = map awaited_by c.processes ++ None ∷ [];
    taken = map was_taken c.processes ++ false ∷ [];
    regions = ready_in (front_of (side_of (slice_get (map member_of c.processes) p.0))) (record { 0 = length (map member_of c.processes) }) c.regions;
  } ≡ of_config d grown
  grown_picture =
      let f = ap (λ o. started_in p o (map member_of c.processes)) here ∙ sym (started_is d p s scope q c.processes) in
      let k = length-map c.processes member_of in
      let g = ap side_of here in
      let n = sym (pending_longer d.processes c.processes v (all_there d c h.sound)) in
      λ i. record (of_config d grown) {
        family = f i;
        made = sym (map-append made_of c.processes (v ∷ [])) i;
        remaining = sym (map-append rest_of c.processes (v ∷ [])) i;
        waiting = sym (map-append awaited_by c.processes (v ∷ [])) i;
        taken = sym (map-append was_taken c.processes (v ∷ [])) i;
        starters = n i;
        regions = ready_in (front_of (g i)) (record { 0 = k i }) c.regions;
      }

  module _ (n : Machine) (child : ProcessId) (k : HasChild d p s scope child m n) where
    child_picture : of_machine d n ≡ of_config d grown
    child_picture =
        let w : map (awaited_at d) (m.sense.waits ++ None ∷ []) ≡ map (awaited_at d) m.sense.waits ++ None ∷ [] = map-append (awaited_at d) m.sense.waits (None ∷ []) in
        ap (of_machine d) k.is
        ∙ (λ i. record (of_machine d m) {
          family = k.tree i;
          activations = (k.more.made i).activations;
          made = (k.more.made i).made;
          remaining = k.more.left i;
          waiting = map (awaited_at d) (k.more.waits i);
          taken = k.more.taken i;
          regions = k.regions i;
        })
        ∙ (λ i. record (of_machine d m) {
          family = started_in p (slice_get m.tree p.0) m.tree;
          made = m.activations.made ++ 0 ∷ [];
          remaining = map (todos_of d) m.processes.items ++ body_in d s scope ∷ [];
          waiting = w i;
          taken = m.taken.items ++ false ∷ [];
          regions = ready_in (front_of (side_of (slice_get m.tree p.0))) (record { 0 = length m.tree }) m.regions;
        })
        ∙ (λ i. record (same i) {
          family = started_in p (slice_get (same i).family p.0) (same i).family;
          made = (same i).made ++ 0 ∷ [];
          remaining = (same i).remaining ++ body_in d s scope ∷ [];
          waiting = (same i).waiting ++ None ∷ [];
          taken = (same i).taken ++ false ∷ [];
          regions = ready_in (front_of (side_of (slice_get (same i).family p.0))) (record { 0 = length (same i).family }) (same i).regions;
        })
        ∙ grown_picture

    child_room : nat_lt (length c.processes) (2 ^ 18) ≡ true
    child_room = ap (λ j. nat_lt j (2 ^ 18)) (sym (family_count d m c same)) ∙ k.room

    child_alive : IsAlive n.tree n.running
    child_alive =
        subst (λ (x : Machine). IsAlive n.tree x.running) (sym k.is)
        (subst (IsAlive n.tree) (sym r)
        (ap (λ (ms : List Member). is_over_in ms p) (ap (λ (y : Picture). y.family) child_picture) ∙ ap (member_test (λ x. x.over)) (map_at member_of grown.processes p.0 q still_there) ∙ lives d m c h p r q is))

    pub child_stands : StandsFor d n grown
    child_stands = record {
      sound = child_sound d b c h.sound p q is s scope (let t = child_room in grind (arith, nat_tests));
      going = h.going;
      fault = ap (λ (x : Machine). x.fault) k.is ∙ h.fault;
      stands = record {
        picture = child_picture;
        covers = k.more.covers;
        alive = child_alive;
        last = (let a = ap (λ (x : Machine). x.wheel.last) k.is in let t = ap (λ (x : Machine). x.time) k.is in let l = h.stands.last in omega (arith, a, t, l));
      };
    }

-- ---- children, one after another

module _ (d : Parts) (b : IsBuilt d) (at : Place) (m : Machine) (p : ProcessId) (r : m.running ≡ Some p) (scope : Option Name) where
  pub starts_nothing : Starts d at p [] scope m m
  starts_nothing c q h is = record { time = ap (λ (x : Picture). x.time) h.stands.picture; fault = h.fault; going = λ g. h.stands }

  module _ (s : RoutineId) (rs : List RoutineId) (n : Machine) where
    pub starts_none : HasNone at m n → Starts d at p (s ∷ rs) scope m n
    starts_none k c q h is =
        let full : nat_lt (length c.processes) (2 ^ 18) ≡ false = ap (λ j. nat_lt j (2 ^ 18)) (sym (family_count d m c h.stands.picture)) ∙ k.full in
        subst (Tracks d n) (sym (ap (λ (y : Bool). if y then started d at p scope q rs (with_child d p q s scope c) else met_fault fault.Processes at c) full))
        (subst (λ (x : Machine). Tracks d x (met_fault fault.Processes at c)) (sym k.is) (fail_tracks d m c h p r q is fault.Processes at))

    pub starts_more : (l : Machine) (child : ProcessId) → HasChild d p s scope child m n → Starts d at p rs scope n l → Starts d at p (s ∷ rs) scope m l
    starts_more l child k more c q h is =
        subst (Tracks d l)
        (sym (ap (λ (y : Bool). if y then started d at p scope q rs (with_child d p q s scope c) else met_fault fault.Processes at c) (child_room d b m c h p r q is s scope n child k)))
        (more (with_child d p q s scope c) q (child_stands d b m c h p r q is s scope n child k) (still_there d b m c h p r q is s scope))

    pub child_at : (child : ProcessId) → HasChild d p s scope child m n → IsAt d m → IsAt d n
    child_at child k a =
        let q = state_is d m a.config a.stands p r in
        record { config = with_child d p q.0 s scope a.config; stands = child_stands d b m a.config a.stands p r q.0 q.1 s scope n child k }

-- the children are the next numbers, and live
pub children_none : (p : ProcessId) (before : List ProcessId) (m : Machine) → ChildrenOf p [] before before m m
children_none p before m = record { all = sym (append-nil before); live = λ e. e }

all_push : (f : ProcessId → Bool) (ps : List ProcessId) (q : ProcessId) → list_all f ps ≡ true → f q ≡ true → list_all f (ps ++ q ∷ []) ≡ true
all_push f [] q e g = ap (λ b. b && true) g
all_push f (p ∷ ps) q e g = by_test (f p) e (all_push f ps q)
  where
    by_test : (b : Bool) → (b && list_all f ps) ≡ true → (list_all f ps ≡ true → f q ≡ true → list_all f (ps ++ q ∷ []) ≡ true) → (b && list_all f (ps ++ q ∷ [])) ≡ true
    by_test true e i = i e g
    by_test false e i = absurd (cc)

pub children_more : (d : Parts) (p : ProcessId) (s : RoutineId) (rs : List RoutineId) (scope : Option Name) (child : ProcessId) (before next after : List ProcessId) (m n l : Machine)
    → p.0 < length m.tree → HasChild d p s scope child m n → next ≡ before ++ child ∷ [] → ChildrenOf p rs next after n l → ChildrenOf p (s ∷ rs) before after m l
children_more d p s rs scope child before next after m n l inside k e t = record { all = all; live = live }
  where
    at : (x : Member) × (slice_get m.tree p.0 ≡ Some x)
    at = there m.tree p.0 inside

    tree : n.tree ≡ m.tree ++ child_in p at.0 ∷ []
    tree = k.tree ∙ ap (λ o. started_in p o m.tree) at.1

    longer : (xs : List Member) (x : Member) → length (xs ++ x ∷ []) ≡ length xs + 1
    longer [] x = refl
    longer (y ∷ xs) x = let i = longer xs x in omega (arith, i)

    count : length n.tree ≡ length m.tree + 1
    count = ap (λ (ms : List Member). length ms) tree ∙ longer m.tree (child_in p at.0)

    all : after ≡ before ++ children_from (length m.tree) (s ∷ rs)
    all =
        t.all ∙ (λ i. e i ++ children_from (count i) rs)
        ∙ append_assoc before (child ∷ []) (children_from (length m.tree + 1) rs)
        ∙ (λ i. before ++ k.number i ∷ children_from (length m.tree + 1) rs)

    live : list_all (is_living_child m.tree p) before ≡ true → list_all (is_living_child l.tree p) after ≡ true
    live g =
        let grown : list_all (is_living_child (m.tree ++ child_in p at.0 ∷ []) p) (before ++ record { 0 = length m.tree } ∷ []) ≡ true =
        all_push (is_living_child (m.tree ++ child_in p at.0 ∷ []) p) before (record { 0 = length m.tree }) (all_live_on m.tree (child_in p at.0) p before g) (child_lives m.tree p at.0) in
        t.live ((λ i. list_all (is_living_child (tree i) p) (e i)) ∙ (λ i. list_all (is_living_child (m.tree ++ child_in p at.0 ∷ []) p) (before ++ k.number i ∷ [])) ∙ grown)

-- ---- the process waits for children

module _ (d : Parts) (m : Machine) (c : Config) (h : StandsFor d m c) (p : ProcessId) (r : m.running ≡ Some p) (q : ProcessState) (is : process_at c p ≡ Some q) where
  same_picture : of_machine d m ≡ of_config d c
  same_picture = h.stands.picture

  stays : Tracks d m c
  stays = record { time = ap (λ (x : Picture). x.time) same_picture; fault = h.fault; going = λ g. h.stands }

  wait_tracks : (all : Bool) (i : ProcessId) (is : List ProcessId) → Tracks d (joining_in p all (i ∷ is) m) (suspended p (Children all (i ∷ is)) c)
  wait_tracks all i' is' =
      let j : Join = record { all = all; children = i' ∷ is' } in
      let u : ProcessState = record q { latest = Waiting (Children all (i' ∷ is')) } in
      let fam : awaiting_in p j (map member_of c.processes) ≡ slice_set (map member_of c.processes) p.0 (member_of u) =
      ap (λ o. changed_in o (λ x. record x { over = false; join = Some j }) p (map member_of c.processes)) (map_at member_of c.processes p.0 q is) in
      subst (Tracks d (joining_in p all (i' ∷ is') m)) (sym (suspends_is d c h.sound p (running_is d m c h p r) q is all (i' ∷ is'))) (record {
        time = ap (λ (x : Picture). x.time) same_picture;
        fault = h.fault;
        going = λ g. record {
          picture = (λ i. record (same_picture i) { running = None; family = awaiting_in p j (same_picture i).family })
              ∙ (λ i. record (of_config d c) {
                running = None;
                family = fam i;
                remaining = sym (rest_stays d m c h p r q is) i;
                waiting = sym (waits_stay d m c h p r q is) i;
              })
              ∙ (λ i. record (sym (state_picture d m c h p r q is u refl refl) i) { running = None });
          covers = h.stands.covers;
          alive = tt;
          last = h.stands.last;
        };
      })

  pub join_tracks : (k : JoinKind) (ps : List ProcessId) → Tracks d (joined_in p k ps m) (joining p k ps c)
  join_tracks join.All [] = stays
  join_tracks join.All (i ∷ ps) = wait_tracks true i ps
  join_tracks join.Any [] = stays
  join_tracks join.Any (i ∷ ps) = wait_tracks false i ps
  join_tracks join.None ps = stays
  join_tracks join.Wait ps = stays

  await_these : (ps : List ProcessId) → Tracks d (joining_in p true ps m) (awaiting p ps c)
  await_these [] = stays
  await_these (i ∷ ps) = wait_tracks true i ps

  pub await_tracks : (ps : List ProcessId) → ps ≡ living_children_in m.tree p → Tracks d (joining_in p true ps m) (awaiting p (living_children c p) c)
  await_tracks ps e =
      let those : ps ≡ living_children c p = e ∙ ap (λ (ms : List Member). living_children_in ms p) (family_is d m c same_picture) ∙ children_are c p in
      subst (λ (qs : List ProcessId). Tracks d (joining_in p true ps m) (awaiting p qs c)) those (await_these ps)

-- ---- the fork

module _ (d : Parts) (b : IsBuilt d) (at : Place) (m : Machine) (p : ProcessId) (r : m.running ≡ Some p) (rs : List RoutineId) (scope : Option Name) (k : JoinKind) (n : Machine)
    (s : Starts d at p rs scope m n) where
  abbrev begun : ProcessState → Config → Config
  begun q c = started d at p scope q rs c

  spawned_as : (c : Config) (q : ProcessState) → process_at c p ≡ Some q → spawned_in d at p rs scope k c ≡ joining p k (children_from (length c.processes) rs) (begun q c)
  spawned_as c q is = ap (λ o. spawned d at p rs scope k o c) is

  pub spawn_waits : IsNone n.fault → (l : Machine) (ps : List ProcessId) → ps ≡ children_from (length m.tree) rs → l ≡ joined_in p k ps n → Makes d m l (spawned_in d at p rs scope k)
  spawn_waits g l ps e is c h =
      let q = state_is d m c h p r in
      let t = s c q.0 h q.1 in
      let w = all_started d b at p q.0 scope rs c h.sound q.1 in
      let going : IsNone (begun q.0 c).fault = ap is_some (sym t.fault) ∙ g in
      let stands : StandsFor d n (begun q.0 c) = record { sound = w.sound; going = going; fault = t.fault; stands = t.going going } in
      let runs : n.running ≡ Some p = ap (λ (x : Picture). x.running) stands.stands.picture ∙ w.running ∙ running_is d m c h p r in
      let those : ps ≡ children_from (length c.processes) rs = e ∙ ap (λ j. children_from j rs) (family_count d m c h.stands.picture) in
      subst (Tracks d l) (sym (spawned_as c q.0 q.1))
      (subst (λ (x : Machine). Tracks d x (joining p k (children_from (length c.processes) rs) (begun q.0 c))) (sym (is ∙ ap (λ (qs : List ProcessId). joined_in p k qs n) those))
      (join_tracks d n (begun q.0 c) stands p runs q.0 (w.before p.0 (within c.processes p.0 q.0 q.1) ∙ q.1) k (children_from (length c.processes) rs)))

  pub spawn_fails : is_some n.fault ≡ true → Makes d m n (spawned_in d at p rs scope k)
  spawn_fails g c h =
      let q = state_is d m c h p r in
      let t = s c q.0 h q.1 in
      subst (Tracks d n) (sym (spawned_as c q.0 q.1)) (record {
        time = t.time ∙ sym (same_time k (children_from (length c.processes) rs) (begun q.0 c));
        fault = t.fault ∙ sym (same_fault k (children_from (length c.processes) rs) (begun q.0 c));
        going = λ z. absurd (let y : true ≡ false = sym g ∙ ap is_some (t.fault ∙ sym (same_fault k (children_from (length c.processes) rs) (begun q.0 c))) ∙ z in cc);
      })
    where
      same_time : (k : JoinKind) (ps : List ProcessId) (e : Config) → (joining p k ps e).time ≡ e.time
      same_time join.All [] e = refl
      same_time join.All (i ∷ ps) e = refl
      same_time join.Any [] e = refl
      same_time join.Any (i ∷ ps) e = refl
      same_time join.None ps e = refl
      same_time join.Wait ps e = refl

      same_fault : (k : JoinKind) (ps : List ProcessId) (e : Config) → (joining p k ps e).fault ≡ e.fault
      same_fault join.All [] e = refl
      same_fault join.All (i ∷ ps) e = refl
      same_fault join.Any [] e = refl
      same_fault join.Any (i ∷ ps) e = refl
      same_fault join.None ps e = refl
      same_fault join.Wait ps e = refl

-- where no fork stands, nothing starts
pub spawn_nothing : (d : Parts) (at : Place) (m : Machine) (p : ProcessId) (scope : Option Name) → Makes d m m (spawned_in d at p [] scope join.None)
spawn_nothing d at m p scope c h = by_state (process_at c p)
  where
    by_state : (o : Option ProcessState) → Tracks d m (spawned d at p [] scope join.None o c)
    by_state None = record { time = ap (λ (x : Picture). x.time) h.stands.picture; fault = h.fault; going = λ g. h.stands }
    by_state (Some q) = record { time = ap (λ (x : Picture). x.time) h.stands.picture; fault = h.fault; going = λ g. h.stands }

-- the statement that the code reads, if there is one
pub stmt_is : (xs ys : List Stmt) (i : ℕ) (s : Stmt) → ys ≡ xs → i < length ys → s ≡ get_or ys i s → slice_get xs i ≡ Some s
stmt_is xs ys i s e l g = ap (λ (zs : List Stmt). slice_get zs i) (sym e) ∙ slice_get-get_or ys i s l ∙ ap (λ (x : Stmt). Some x) (sym g)

pub stmt_none : (xs ys : List Stmt) (i : ℕ) → ys ≡ xs → false ≡ nat_lt i (length ys) → slice_get xs i ≡ None
stmt_none xs ys i e h = let l : length ys ≤ i = grind (arith, nat_tests) in ap (λ (zs : List Stmt). slice_get zs i) (sym e) ∙ get_none ys i l

-- a statement that is no fork
pub fork_other : (d : Parts) (at : Place) (m : Machine) (p : ProcessId) (scope : Option Name) (f : Form)
    → ((locals : List Declared) (initializers : Option RoutineId) (children : List RoutineId) (k : JoinKind) → f ≡ form.Fork locals initializers children k → ⊥)
    → Makes d m m (forked_in d at p (spawn_of f scope))
fork_other d at m p scope (form.Fork ts is cs k) h = absurd (h ts is cs k refl)
fork_other d at m p scope f h = spawn_nothing d at m p scope

-- by the statement that stands there
pub fork_as : (d : Parts) (at : Place) (m n : Machine) (p : ProcessId) (scope : Option Name) (o : Option Stmt) (s : Stmt) (f : Form) → o ≡ Some s → s.form ≡ f
    → Makes d m n (forked_in d at p (spawn_of f scope)) → Makes d m n (forked_in d at p (spawn_at o scope))
fork_as d at m n p scope o s f e g h =
    subst (λ x. Makes d m n (forked_in d at p (spawn_at x scope))) (sym e) (subst (λ (x : Form). Makes d m n (forked_in d at p (spawn_of x scope))) (sym g) h)

pub fork_none : (d : Parts) (at : Place) (m : Machine) (p : ProcessId) (scope : Option Name) (o : Option Stmt) → o ≡ None → Makes d m m (forked_in d at p (spawn_at o scope))
fork_none d at m p scope o e = subst (λ x. Makes d m m (forked_in d at p (spawn_at x scope))) (sym e) (spawn_nothing d at m p scope)
