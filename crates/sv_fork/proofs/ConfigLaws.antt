-- The processes of a configuration, as members of a tree.
use Rattle.std.proofs.Common.{◌≡◌, ℕ, zero, suc, ◌+◌, Bool, true, false, cond, List, [], ◌∷◌, ◌++◌, Option, Some, None, length, map, filter, slice_get, slice_set, refl, sym, ap, ◌∙◌, ◌⊎◌, inl, inr}
use Rattle.std.specs.Prelude.{not, ◌&&◌, ◌||◌}
use Rattle.std.specs.List.{list_all}
use Rattle.sv_value.specs.declared.number.ProcessId.{ProcessId}
use Rattle.sv_value.specs.declared.number.RoutineId.{RoutineId}
use Rattle.sv_flat.specs.declared.design.Parts.{Parts}
use Rattle.sv_flat.specs.State.{Name}
use Rattle.sv_flat.specs.Process
use Rattle.sv_flat.specs.Process.{ProcessState, Status, Until, Ready, Running, Waiting, Children}
use Rattle.sv_flat.specs.Config.{Config, side_in, all_made_ready, made_ready, numbered_from, process_at, processes_with, set_at, side_of, state_test}
use Rattle.sv_flat.specs.Effects.Ends.{all_ended, descendants, descends_within, ended, is_ended, is_over, is_running, joined, joins, living_children, parent_in}
use Rattle.sv_flat.specs.Effects.Scheduling.{child_of, suspended}
use Rattle.sv_fork.specs.Tree
use Rattle.sv_fork.specs.Tree.{Join, Member, all_ended_in, all_ready_in, awaiting_in, changed_in, child_in, descendants_in, descends_in, ended_in, is_living_child, is_over_in, join_of, joined_in, joins_in, living_children_in, member_of, member_test, members_with, parent_of, started_in}
use Rattle.sv_fork.proofs.PlaceLaws.{map_set, by_option, some_same, both, get_front, get_last}
use Rattle.sv_fork.proofs.NumberLaws.{all_same, any_same, filter_same, number_same}

-- the processes of a configuration
abbrev pub members_of : Config → List Member
members_of c = map member_of c.processes

-- a process, if there is one
abbrev pub some_member : Option ProcessState → Option Member
some_member None = None
some_member (Some q) = Some (member_of q)

length_map : {A B : Type 0} (f : A → B) (xs : List A) → length (map f xs) ≡ length xs
length_map f [] = refl
length_map f (x ∷ xs) = ap suc (length_map f xs)

pub get_members : (qs : List ProcessState) (k : ℕ) → slice_get (map member_of qs) k ≡ some_member (slice_get qs k)
get_members [] k = refl
get_members (q ∷ qs) zero = refl
get_members (q ∷ qs) (suc k) = get_members qs k

pub member_at : (c : Config) (p : ProcessId) → slice_get (members_of c) p.0 ≡ some_member (process_at c p)
member_at c p = get_members c.processes p.0

-- ---- what is asked

-- processes that pass a test
pub processes_are : (f : ProcessId → ProcessState → Bool) (g : ProcessId → Member → Bool) (c : Config) → ((p : ProcessId) (q : ProcessState) → f p q ≡ g p (member_of q))
    → members_with g (members_of c) ≡ processes_with f c
processes_are f g c h =
    filter_same (λ p. member_test (g p) (slice_get (members_of c) p.0)) (λ p. state_test (f p) (process_at c p)) 0 (members_of c) c.processes (length_map member_of c.processes)
    (λ p. ap (member_test (g p)) (member_at c p) ∙ of_state p (process_at c p))
  where
    of_state : (p : ProcessId) (o : Option ProcessState) → member_test (g p) (some_member o) ≡ state_test (f p) o
    of_state p None = refl
    of_state p (Some q) = sym (h p q)

pub over_is : (c : Config) (p : ProcessId) → is_over_in (members_of c) p ≡ is_over c p
over_is c p = ap (member_test (λ m. m.over)) (member_at c p) ∙ of_state (process_at c p)
  where
    of_state : (o : Option ProcessState) → member_test (λ m. m.over) (some_member o) ≡ state_test (λ q. is_ended q.latest) o
    of_state None = refl
    of_state (Some q) = refl

pub parent_is : (c : Config) (p : ProcessId) → parent_of (slice_get (members_of c) p.0) ≡ parent_in (process_at c p)
parent_is c p = ap parent_of (member_at c p) ∙ of_state (process_at c p)
  where
    of_state : (o : Option ProcessState) → parent_of (some_member o) ≡ parent_in o
    of_state None = refl
    of_state (Some q) = refl

pub side_is : (c : Config) (p : ProcessId) → Tree.side_of (slice_get (members_of c) p.0) ≡ side_of c p
side_is c p = ap Tree.side_of (member_at c p) ∙ of_state (process_at c p)
  where
    of_state : (o : Option ProcessState) → Tree.side_of (some_member o) ≡ side_in o
    of_state None = refl
    of_state (Some q) = refl

pub joins_are : (c : Config) (s : Status) → joins_in (members_of c) (join_of s) ≡ joins c s
joins_are c Ready = refl
joins_are c Running = refl
joins_are c Process.Ended = refl
joins_are c (Waiting (Children true ps)) = all_same (is_over_in (members_of c)) (is_over c) ps (λ p h. over_is c p)
joins_are c (Waiting (Children false ps)) = any_same (is_over_in (members_of c)) (is_over c) ps (λ p h. over_is c p)
joins_are c (Waiting Process.Moment) = refl
joins_are c (Waiting Process.Turn_in_slot) = refl
joins_are c (Waiting (Process.Watches ws scope)) = refl
joins_are c (Waiting Process.Queue) = refl
joins_are c (Waiting Process.Start) = refl

-- those whose joins are complete
pub joined_are : (c : Config) → joined_in (members_of c) ≡ joined c
joined_are c = processes_are (λ p q. joins c q.latest) (λ p m. joins_in (members_of c) m.join) c (λ p q. sym (joins_are c q.latest))

pub descends_is : (n : ℕ) (c : Config) (o : Option ProcessId) (p : ProcessId) → descends_in n (members_of c) o p ≡ descends_within n c o p
descends_is zero c o p = refl
descends_is (suc n) c None p = refl
descends_is (suc n) c (Some q) p =
    λ i. is_running (parent_is c q i) p || (ap (λ r. descends_in n (members_of c) r p) (parent_is c q) ∙ descends_is n c (parent_in (process_at c q)) p) i

-- the living descendants of a process
pub descendants_are : (c : Config) (p : ProcessId) → descendants_in (members_of c) p ≡ descendants c p
descendants_are c p =
    processes_are (λ q s. descends_within (length c.processes) c (Some q) p && not (is_ended s.latest))
    (λ q m. descends_in (length (members_of c)) (members_of c) (Some q) p && not m.over) c
    (λ q s. ap (λ b. b && not (is_ended s.latest))
    (sym (ap (λ n. descends_in n (members_of c) (Some q) p) (length_map member_of c.processes) ∙ descends_is (length c.processes) c (Some q) p)))

-- the living children of a process
pub children_are : (c : Config) (p : ProcessId) → living_children_in (members_of c) p ≡ living_children c p
children_are c p = processes_are (λ q s. is_running s.parent p && not (is_ended s.latest)) (λ q m. is_running m.parent p && not m.over) c (λ q s. refl)

-- how many processes there are
pub count_is : (c : Config) → length (members_of c) ≡ length c.processes
count_is c = length_map member_of c.processes

-- ---- what changes

-- a changed process
pub changed_are : (f : ProcessState → ProcessState) (g : Member → Member) (p : ProcessId) (qs : List ProcessState) → ((q : ProcessState) → member_of (f q) ≡ g (member_of q))
    → map member_of (set_at (slice_get qs p.0) f p qs) ≡ changed_in (slice_get (map member_of qs) p.0) g p (map member_of qs)
changed_are f g p qs h = of_state (slice_get qs p.0) ∙ sym (ap (λ o. changed_in o g p (map member_of qs)) (get_members qs p.0))
  where
    of_state : (o : Option ProcessState) → map member_of (set_at o f p qs) ≡ changed_in (some_member o) g p (map member_of qs)
    of_state None = refl
    of_state (Some q) = map_set member_of qs p.0 (f q) ∙ ap (slice_set (map member_of qs) p.0) (h q)

-- a changed process that is the same for the tree
pub changed_same : (f : ProcessState → ProcessState) (p : ProcessId) (qs : List ProcessState) → ((q : ProcessState) → slice_get qs p.0 ≡ Some q → member_of (f q) ≡ member_of q)
    → map member_of (set_at (slice_get qs p.0) f p qs) ≡ map member_of qs
changed_same f p qs h = of_state (slice_get qs p.0) refl
  where
    same : (rs : List ProcessState) (k : ℕ) (q : ProcessState) (x : Member) → slice_get rs k ≡ Some q → x ≡ member_of q → slice_set (map member_of rs) k x ≡ map member_of rs
    same [] k q x e g = refl
    same (r ∷ rs) zero q x e g = ap (λ y. y ∷ map member_of rs) (g ∙ sym (ap member_of (some_same e)))
    same (r ∷ rs) (suc k) q x e g = ap (λ ys. member_of r ∷ ys) (same rs k q x e g)

    of_state : (o : Option ProcessState) → slice_get qs p.0 ≡ o → map member_of (set_at o f p qs) ≡ map member_of qs
    of_state None e = refl
    of_state (Some q) e = map_set member_of qs p.0 (f q) ∙ same qs p.0 q (member_of (f q)) e (h q e)

-- a process ends
pub ended_is : (p : ProcessId) (c : Config) → members_of (ended p c) ≡ ended_in p (members_of c)
ended_is p c = changed_are (λ q. record q { latest = Process.Ended; rest = [] }) (λ m. record m { over = true; join = None }) p c.processes (λ q. refl)

-- one after another ends
pub all_ended_are : (ps : List ProcessId) (c : Config) → members_of (all_ended ps c) ≡ all_ended_in ps (members_of c)
all_ended_are [] c = refl
all_ended_are (p ∷ ps) c = all_ended_are ps (ended p c) ∙ ap (all_ended_in ps) (ended_is p c)

-- a process becomes ready
pub ready_is : (p : ProcessId) (c : Config) → members_of (made_ready p c) ≡ Tree.ready_in p (members_of c)
ready_is p c = changed_are (λ q. record q { latest = Ready }) (λ m. record m { over = false; join = None }) p c.processes (λ q. refl)

-- the same for each of these
pub all_ready_are : (ps : List ProcessId) (c : Config) → members_of (all_made_ready ps c) ≡ all_ready_in ps (members_of c)
all_ready_are [] c = refl
all_ready_are (p ∷ ps) c = all_ready_are ps (made_ready p c) ∙ ap (all_ready_in ps) (ready_is p c)

-- a process waits for children
pub waits_is : (p : ProcessId) (all : Bool) (ps : List ProcessId) (c : Config)
    → members_of (suspended p (Children all ps) c) ≡ awaiting_in p (record { all = all; children = ps }) (members_of c)
waits_is p all ps c =
    changed_are (λ q. record q { latest = Waiting (Children all ps) }) (λ m. record m { over = false; join = Some (record { all = all; children = ps }) }) p c.processes
    (λ q. refl)

map_push : {A B : Type 0} (f : A → B) (xs : List A) (x : A) → map f (xs ++ x ∷ []) ≡ map f xs ++ f x ∷ []
map_push f [] x = refl
map_push f (z ∷ xs) x = ap (λ ys. f z ∷ ys) (map_push f xs x)

-- a process has a child more, as the state of its parent is
pub started_is : (d : Parts) (p : ProcessId) (r : RoutineId) (scope : Option Name) (q : ProcessState) (qs : List ProcessState)
    → map member_of (qs ++ child_of d p r scope q ∷ []) ≡ started_in p (Some (member_of q)) (map member_of qs)
started_is d p r scope q qs = map_push member_of qs (child_of d p r scope q)

-- ---- living children

-- the living children of a process are living
pub children_live : (ms : List Member) (p : ProcessId) → list_all (is_living_child ms p) (living_children_in ms p) ≡ true
children_live ms p = all_filtered 0 ms
  where
    all_filtered : (n : ℕ) (xs : List Member) → list_all (is_living_child ms p) (filter (is_living_child ms p) (numbered_from n xs)) ≡ true
    all_filtered n [] = refl
    all_filtered n (x ∷ xs) = of_test (is_living_child ms p (record { 0 = n })) refl (all_filtered (n + 1) xs)
      where
        of_test : (b : Bool) → is_living_child ms p (record { 0 = n }) ≡ b → list_all (is_living_child ms p) (filter (is_living_child ms p) (numbered_from (n + 1) xs)) ≡ true
            → list_all (is_living_child ms p) (cond b (record { 0 = n } ∷ filter (is_living_child ms p) (numbered_from (n + 1) xs)) (filter (is_living_child ms p) (numbered_from (n + 1) xs))) ≡ true
        of_test true e h = ap (λ b. b && list_all (is_living_child ms p) (filter (is_living_child ms p) (numbered_from (n + 1) xs))) e ∙ h
        of_test false e h = h

-- a new child is living
pub child_lives : (ms : List Member) (p : ProcessId) (m : Member) → is_living_child (ms ++ child_in p m ∷ []) p (record { 0 = length ms }) ≡ true
child_lives ms p m = ap (member_test (λ n. is_running n.parent p && not n.over)) (get_last ms (child_in p m)) ∙ ap (λ b. b && true) (number_same p.0)

-- a living child is one when there is a process more
pub lives_on : (ms : List Member) (x : Member) (p c : ProcessId) → is_living_child ms p c ≡ true → is_living_child (ms ++ x ∷ []) p c ≡ true
lives_on ms x p c h = of_cases (by_option (slice_get ms c.0))
  where
    of_cases : ((m : Member) × (slice_get ms c.0 ≡ Some m)) ⊎ (slice_get ms c.0 ≡ None) → is_living_child (ms ++ x ∷ []) p c ≡ true
    of_cases (inl g) = ap (member_test (λ n. is_running n.parent p && not n.over)) (get_front ms (x ∷ []) c.0 g.0 g.1 ∙ sym g.1) ∙ h
    of_cases (inr g) = both h (ap (member_test (λ n. is_running n.parent p && not n.over)) g)

-- the same of a list of them
pub all_live_on : (ms : List Member) (x : Member) (p : ProcessId) (cs : List ProcessId) → list_all (is_living_child ms p) cs ≡ true → list_all (is_living_child (ms ++ x ∷ []) p) cs ≡ true
all_live_on ms x p [] h = refl
all_live_on ms x p (c ∷ cs) h = of_first (all_live_on ms x p cs) (is_living_child ms p c) refl h
  where
    of_first : (list_all (is_living_child ms p) cs ≡ true → list_all (is_living_child (ms ++ x ∷ []) p) cs ≡ true) → (b : Bool) → is_living_child ms p c ≡ b
        → (b && list_all (is_living_child ms p) cs) ≡ true → (is_living_child (ms ++ x ∷ []) p c && list_all (is_living_child (ms ++ x ∷ []) p) cs) ≡ true
    of_first later true e g = ap (λ b. b && list_all (is_living_child (ms ++ x ∷ []) p) cs) (lives_on ms x p c e) ∙ later g
    of_first later false e g = both g refl
