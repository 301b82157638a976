-- The processes of a run, each with its parent and with the children that it waits for (IEEE 1800-2017, 9.3.2, 9.6.1 and 9.6.3).
use Rattle.std.specs.Prelude.{if◌then◌else◌, ℕ, zero, suc, ◌≡◌, ◌<◌, Bool, true, false, not, ◌&&◌, ◌||◌, List, [], ◌∷◌, ◌++◌, length, filter, Option, Some, None, is_some, slice_get, slice_set}
use Rattle.std.specs.List.{list_any, list_all}
use Rattle.sv_value.specs.declared.number.ProcessId.{ProcessId}
use Rattle.sv_value.specs.declared.schedule.Side.{Side}
use Rattle.sv_value.specs.declared.schedule.Side.TheVariants.{Active}
use Rattle.sv_flat.specs.Process.{ProcessState, Status, Until, Waiting, Children}
use Rattle.sv_flat.specs.Config.{numbered_from}
use Rattle.sv_flat.specs.Effects.{is_in}
use Rattle.sv_flat.specs.Effects.Ends.{is_ended, is_running}

-- what a process waits for: that all of these children end, or one of them
pub record Join : Type 0 where
  pub all : Bool
  pub children : List ProcessId

-- a process: its side, the process that forked it, whether it is over, and the children that it waits for
pub record Member : Type 0 where
  pub side : Side
  pub parent : Option ProcessId
  pub over : Bool
  pub join : Option Join

-- ---- the same of a process of a configuration

-- the children that are waited for
abbrev pub join_until : Until → Option Join
join_until (Children all ps) = Some (record { all = all; children = ps })
join_until u = None

-- the children for which a process stands waiting
abbrev pub join_of : Status → Option Join
join_of (Waiting u) = join_until u
join_of s = None

-- a process of a configuration
abbrev pub member_of : ProcessState → Member
member_of q = record { side = q.side; parent = q.parent; over = is_ended q.latest; join = join_of q.latest }

-- ---- what is asked

-- a test of a process
abbrev pub member_test : (Member → Bool) → Option Member → Bool
member_test f None = false
member_test f (Some m) = f m

-- the processes for which a test holds, by number
abbrev pub members_with : (ProcessId → Member → Bool) → List Member → List ProcessId
members_with f ms = filter (λ p. member_test (f p) (slice_get ms p.0)) (numbered_from 0 ms)

-- the process with a number is over
abbrev pub is_over_in : List Member → ProcessId → Bool
is_over_in ms p = member_test (λ m. m.over) (slice_get ms p.0)

-- whether a join is complete
abbrev pub joins_in : List Member → Option Join → Bool
joins_in ms None = false
joins_in ms (Some j) = if j.all then list_all (is_over_in ms) j.children else list_any (is_over_in ms) j.children

-- those whose joins are complete
abbrev pub joined_in : List Member → List ProcessId
joined_in ms = members_with (λ p m. joins_in ms m.join) ms

-- the parent of a process
abbrev pub parent_of : Option Member → Option ProcessId
parent_of None = None
parent_of (Some m) = m.parent

-- the side of a process
abbrev pub side_of : Option Member → Side
side_of None = Active
side_of (Some m) = m.side

-- a process descends from another one
abbrev pub descends_in : ℕ → List Member → Option ProcessId → ProcessId → Bool
descends_in zero ms q p = false
descends_in (suc fuel) ms None p = false
descends_in (suc fuel) ms (Some q) p =
    is_running (parent_of (slice_get ms q.0)) p || descends_in fuel ms (parent_of (slice_get ms q.0)) p

-- the living descendants of a process, by number
abbrev pub descendants_in : List Member → ProcessId → List ProcessId
descendants_in ms p = members_with (λ q m. descends_in (length ms) ms (Some q) p && not m.over) ms

-- the living children of a process, by number
abbrev pub living_children_in : List Member → ProcessId → List ProcessId
living_children_in ms p = members_with (λ q m. is_running m.parent p && not m.over) ms

-- ---- what changes

-- a changed process
abbrev pub changed_in : Option Member → (Member → Member) → ProcessId → List Member → List Member
changed_in None f p ms = ms
changed_in (Some m) f p ms = slice_set ms p.0 (f m)

-- a process more that no process forked
abbrev pub with_root : Side → List Member → List Member
with_root s ms = ms ++ record { side = s; parent = None; over = false; join = None } ∷ []

-- a child of a process
abbrev pub child_in : ProcessId → Member → Member
child_in p m = record { side = m.side; parent = Some p; over = false; join = None }

-- a process has a child more
abbrev pub started_in : ProcessId → Option Member → List Member → List Member
started_in p None ms = ms
started_in p (Some m) ms = ms ++ child_in p m ∷ []

-- a process waits for children
abbrev pub awaiting_in : ProcessId → Join → List Member → List Member
awaiting_in p j ms = changed_in (slice_get ms p.0) (λ m. record m { over = false; join = Some j }) p ms

-- a process waits for no children
abbrev pub ready_in : ProcessId → List Member → List Member
ready_in p ms = changed_in (slice_get ms p.0) (λ m. record m { over = false; join = None }) p ms

-- the same for each of these
abbrev pub all_ready_in : List ProcessId → List Member → List Member
all_ready_in [] ms = ms
all_ready_in (p ∷ ps) ms = all_ready_in ps (ready_in p ms)

-- a process is over
abbrev pub ended_in : ProcessId → List Member → List Member
ended_in p ms = changed_in (slice_get ms p.0) (λ m. record m { over = true; join = None }) p ms

-- one after another is over
abbrev pub all_ended_in : List ProcessId → List Member → List Member
all_ended_in [] ms = ms
all_ended_in (p ∷ ps) ms = all_ended_in ps (ended_in p ms)

-- ---- what a tree of processes keeps

-- the children that a process waits for
abbrev pub join_in : Option Member → Option Join
join_in None = None
join_in (Some m) = m.join

-- the parent of a process waits for children
abbrev pub is_awaited_by : List Member → Option ProcessId → Bool
is_awaited_by ms None = false
is_awaited_by ms (Some p) = is_some (join_in (slice_get ms p.0))

-- one that may be waited for: the parent waits for children
abbrev pub is_awaited : List Member → ProcessId → Bool
is_awaited ms p = is_awaited_by ms (parent_of (slice_get ms p.0))

-- a living child of a process
abbrev pub is_living_child : List Member → ProcessId → ProcessId → Bool
is_living_child ms p q = member_test (λ m. is_running m.parent p && not m.over) (slice_get ms q.0)

-- a living descendant of a process
abbrev pub is_living_descendant : List Member → ProcessId → ProcessId → Bool
is_living_descendant ms p q = member_test (λ m. descends_in (length ms) ms (Some q) p && not m.over) (slice_get ms q.0)

-- parents come before their children, a process that is over waits for none, others for children of their own; no join is complete
pub record IsTree (ms : List Member) : Type 0 where
  pub parents : (q : ℕ) (m : Member) (p : ProcessId) → slice_get ms q ≡ Some m → m.parent ≡ Some p → p.0 < q
  pub over : (q : ℕ) (m : Member) (j : Join) → slice_get ms q ≡ Some m → m.join ≡ Some j → m.over ≡ false
  pub children : (q : ℕ) (m : Member) (j : Join) (c : ProcessId) → slice_get ms q ≡ Some m → m.join ≡ Some j → is_in c j.children ≡ true
      → parent_of (slice_get ms c.0) ≡ Some (record { 0 = q })
  pub waiting : (q : ℕ) (m : Member) → slice_get ms q ≡ Some m → joins_in ms m.join ≡ false

-- the one process that is told, if there is one
abbrev pub listed : Option ProcessId → List ProcessId
listed None = []
listed (Some p) = p ∷ []
