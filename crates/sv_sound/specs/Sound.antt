-- What each configuration that a run of a built design comes to keeps (own).
use Rattle.std.specs.Prelude.{ℕ, ◌≡◌, ◌+◌, ◌<◌, ◌≤◌, ◌^◌, Bool, true, false, not, ◌&&◌, ◌||◌, List, [], ◌∷◌, Option, None, Some, IsSome, length, slice_get, sum_by, if◌then◌else◌}
use Rattle.std.specs.List.{AllByRecursion, list_all, list_any}
use Rattle.sv_value.specs.declared.number.ProcessId.{ProcessId}
use Rattle.sv_value.specs.declared.schedule.Due.{Due}
use Rattle.sv_value.specs.declared.schedule.Due.TheVariants.{Resume, Work}
use Rattle.sv_value.specs.declared.schedule.Event.{Event}
use Rattle.sv_value.specs.declared.schedule.Job.{Job}
use Rattle.sv_value.specs.declared.schedule.Job.TheVariants.{Update, Clock}
use Rattle.sv_value.specs.declared.schedule.Region.{Region}
use Rattle.sv_value.specs.declared.schedule.Region.TheVariants as region
use Rattle.sv_value.specs.declared.schedule.Side.{Side}
use Rattle.sv_value.specs.Regions.{Set, Regions, standing}
use Rattle.sv_flat.specs.declared.process.Process.{Process}
use Rattle.sv_flat.specs.declared.stmt.PrintKind.{PrintKind}
use Rattle.sv_flat.specs.declared.stmt.PrintKind.TheVariants as print
use Rattle.sv_flat.specs.declared.design.Parts.{Parts}
use Rattle.sv_flat.specs.State.{World, Activation}
use Rattle.sv_flat.specs.Process
use Rattle.sv_flat.specs.Process.{ProcessState, Status, Waiting, Watches, Children, Turn_in_slot, Start, Until, Todo, Do, Turn, Turns, Walk_elements, Start_children, Leave, Put, Output, Spot, Cell, Variable_of, Effect, Remain, Enter, Write, Suspend, Resume_at, Update_at, Spawn, Await_children, End_descendants, Print_text, Keep_print, Finish_run, End, Fail}
use Rattle.sv_flat.specs.Config.{Config, Clock as Clock_state, Monitor, numbered_from, side_in, state_test, starts, is_always_comb}
use Rattle.sv_flat.specs.Effects.Ends.{is_ended, parent_in}
use Rattle.sv_flat.specs.Opening.{empty_world}
use Rattle.sv_built.specs.Built.{IsBuiltType, IsBuiltTarget, IsBuiltWatch, IsBuiltStmt, IsBuiltCall}

-- ---- how much the processes weigh that stand somewhere, by any weights

-- the weight of what comes due
abbrev pub weight_of_due : (ProcessId → ℕ) → Due → ℕ
weight_of_due w (Resume p) = w p
weight_of_due w (Work j) = 0

-- the weight of what is scheduled
abbrev pub weight_of_event : (ProcessId → ℕ) → Event → ℕ
weight_of_event w e = weight_of_due w e.due

-- the weight of the process that runs, if there is one
abbrev pub weight_of_running : (ProcessId → ℕ) → Option ProcessId → ℕ
weight_of_running w None = 0
weight_of_running w (Some p) = w p

-- the weight of those in the regions, in the future and running
abbrev pub weight_in : (ProcessId → ℕ) → Regions → List Event → Option ProcessId → ℕ
weight_in w r es o = sum_by w (standing r) + sum_by (weight_of_event w) es + weight_of_running w o

-- a process that stands in none of these: it waits for a change, for children, or for its start
abbrev pub is_parked : Status → Bool
is_parked (Waiting (Watches ws scope)) = true
is_parked (Waiting (Children all ps)) = true
is_parked (Waiting Start) = true
is_parked s = false

-- the weight of such processes, from a number on
abbrev pub parked_weight : (ProcessId → ℕ) → ℕ → List ProcessState → ℕ
parked_weight w n [] = 0
parked_weight w n (q ∷ qs) = (if is_parked q.latest then w (record { 0 = n }) else 0) + parked_weight w (n + 1) qs

-- the weight in a configuration
abbrev pub weight : (ProcessId → ℕ) → Config → ℕ
weight w c = weight_in w c.regions c.future c.running + parked_weight w 0 c.processes

-- the weight of all that there are, by number
abbrev pub weight_of_all : {A : Type 0} → (ProcessId → ℕ) → List A → ℕ
weight_of_all w xs = sum_by w (numbered_from 0 xs)

-- ---- jobs, regions and the future

-- a job is an update
abbrev pub IsPlainJob : Job → Type 0
IsPlainJob (Update us) = Unit {0}
IsPlainJob (Clock k) = ⊥

-- a process resumes in a front, and a job comes where updates stand
abbrev pub IsDue : Region → Due → Type 0
IsDue region.Active (Resume p) = Unit {0}
IsDue region.Reactive (Resume p) = Unit {0}
IsDue region.Nba (Work j) = IsPlainJob j
IsDue region.ReNba (Work j) = IsPlainJob j
IsDue _ _ = ⊥

-- what is scheduled comes where it may
pub record IsPlainEvent (e : Event) : Type 0 where
  pub due : IsDue e.region e.due

-- the jobs of a side are updates
pub record IsPlainSet (s : Set) : Type 0 where
  pub jobs : AllByRecursion IsPlainJob s.jobs
  pub updates : AllByRecursion IsPlainJob s.updates
  pub clocks : s.clocks ≡ []

-- the jobs of both sides are
pub record ArePlain (r : Regions) : Type 0 where
  pub active : IsPlainSet r.active
  pub reactive : IsPlainSet r.reactive

-- ---- processes

-- an output of a call is copied to such targets
abbrev pub IsPlainOutput : Output → Type 0
IsPlainOutput o = AllByRecursion IsBuiltTarget o.targets

-- what is left to run is of statements and calls that are built, in any scopes
abbrev pub IsPlainTodo : Todo → Type 0
IsPlainTodo (Do s cs outer hidden) = IsBuiltStmt s × AllByRecursion IsBuiltCall cs
IsPlainTodo (Turn s scope) = IsBuiltStmt s
IsPlainTodo (Turns at n b scope) = Unit {0}
IsPlainTodo (Walk_elements s n scope) = IsBuiltStmt s
IsPlainTodo (Start_children at cs j scope) = Unit {0}
IsPlainTodo (Leave at r) = AllByRecursion IsPlainOutput r.outputs
IsPlainTodo (Put at ts x scope) = AllByRecursion IsBuiltTarget ts
IsPlainTodo _ = ⊥

-- a process that waits for a change waits for one of built event expressions
abbrev pub AreAwaited : Status → Type 0
AreAwaited (Waiting (Watches ws scope)) = AllByRecursion IsBuiltWatch ws
AreAwaited s = Unit {0}

-- whether a starter was not taken yet
abbrev pub is_pending : List Process → List ProcessState → Bool
is_pending (f ∷ fs) (q ∷ qs) = (starts f && not q.was_taken) || is_pending fs qs
is_pending _ _ = false

-- how many starters were not taken yet
abbrev pub pending_count : List Process → List ProcessState → ℕ
pending_count (f ∷ fs) (q ∷ qs) = (if starts f && not q.was_taken then 1 else 0) + pending_count fs qs
pending_count _ _ = 0

-- the state of a process of the design; before all starters were taken, an `always_comb` waits for its start
pub record IsStateOf (pending : Bool) (f : Process) (q : ProcessState) : Type 0 where
  pub side : q.side ≡ f.side
  pub program : q.program ≡ None
  pub parent : q.parent ≡ None
  pub rest : AllByRecursion IsPlainTodo q.rest
  pub awaits : AreAwaited q.latest
  pub held : pending ≡ true → is_always_comb f.kind ≡ true → q.latest ≡ Waiting Start

-- whether a process waits for its start
abbrev pub is_held : Status → Bool
is_held (Waiting Start) = true
is_held s = false

-- the state of a process that a fork made
pub record IsForked (q : ProcessState) : Type 0 where
  pub program : q.program ≡ None
  pub forked : IsSome q.parent
  pub rest : AllByRecursion IsPlainTodo q.rest
  pub awaits : AreAwaited q.latest
  pub free : is_held q.latest ≡ false

-- the processes are those of the design, and behind them those that forks made
abbrev pub AreStates : Bool → List Process → List ProcessState → Type 0
AreStates pending [] qs = AllByRecursion IsForked qs
AreStates pending (f ∷ fs) (q ∷ qs) = IsStateOf pending f q × AreStates pending fs qs
AreStates pending (f ∷ fs) [] = ⊥

-- ---- parents and children

-- the process with a number is over
abbrev pub is_over_among : List ProcessState → ProcessId → Bool
is_over_among qs p = state_test (λ q. is_ended q.latest) (slice_get qs p.0)

-- the join is complete for which a process waits
abbrev pub is_complete : List ProcessState → Status → Bool
is_complete qs (Waiting (Children true ps)) = list_all (is_over_among qs) ps
is_complete qs (Waiting (Children false ps)) = list_any (is_over_among qs) ps
is_complete qs s = false

-- the process with a number is a child of this one, where there may be one
abbrev pub IsChild : List ProcessState → ProcessId → ProcessId → Type 0
IsChild qs p r = r.0 < 2 ^ 18 → parent_in (slice_get qs r.0) ≡ Some p

-- whoever waits for children waits for its own
abbrev pub AreChildren : List ProcessState → ProcessId → Status → Type 0
AreChildren qs p (Waiting (Children all rs)) = AllByRecursion (IsChild qs p) rs
AreChildren qs p s = Unit {0}

-- the parent of a process was there before it, and is of the same side
abbrev pub IsUnder : List ProcessState → ProcessId → Side → Option ProcessId → Type 0
IsUnder qs p s None = Unit {0}
IsUnder qs p s (Some r) = (r.0 < p.0) × (side_in (slice_get qs r.0) ≡ s)

-- a process with its parent and with the children for which it waits
pub record IsRelated (qs : List ProcessState) (p : ProcessId) (q : ProcessState) : Type 0 where
  pub parent : IsUnder qs p q.side q.parent
  pub children : AreChildren qs p q.latest
  pub waits : is_complete qs q.latest ≡ false

-- so are all processes, of which there are at most 2 ^ 18
pub record AreRelated (qs : List ProcessState) : Type 0 where
  pub few : length qs ≤ 2 ^ 18
  pub each : (p : ProcessId) (q : ProcessState) → slice_get qs p.0 ≡ Some q → IsRelated qs p q

-- ---- configurations

-- an activation that a process made which there is
abbrev pub IsMadeBy : List ProcessState → Activation → Type 0
IsMadeBy qs a = a.name.process.0 < length qs

-- what each configuration of a run keeps, by the parts of a configuration that it speaks of
pub record AreSound (d : Parts) (world : World) (clocks : List Clock_state) (monitor : Option Monitor) (regions : Regions) (future : List Event)
    (processes : List ProcessState) (running : Option ProcessId) : Type 0 where
  pub no_heap : world.heap ≡ empty_world.heap
  pub no_clocks : clocks ≡ []
  pub no_monitor : monitor ≡ None
  pub plain : ArePlain regions
  pub each_event : AllByRecursion IsPlainEvent future
  pub states : AreStates (is_pending d.processes processes) d.processes processes
  pub related : AreRelated processes
  pub made : AllByRecursion (IsMadeBy processes) world.activations
  -- whatever the weights, those that are ready, scheduled, running or parked weigh no more than all: each stands in one place at most
  pub weights : (w : ProcessId → ℕ) → weight_in w regions future running + parked_weight w 0 processes ≤ weight_of_all w processes

-- what each configuration of a run keeps
abbrev pub IsSound : Parts → Config → Type 0
IsSound d c = AreSound d c.world c.clocks c.monitor c.regions c.future c.processes c.running

-- ---- effects

-- an element of an object, a driver of a net, or nothing
abbrev pub IsCell : Spot → Type 0
IsCell (Cell o i r) = Unit {0}
IsCell Process.Nowhere = Unit {0}
IsCell _ = ⊥

-- such a spot, or a variable of an activation
abbrev pub IsPlainSpot : Spot → Type 0
IsPlainSpot (Cell o i r) = Unit {0}
IsPlainSpot (Variable_of n i r) = Unit {0}
IsPlainSpot Process.Nowhere = Unit {0}
IsPlainSpot _ = ⊥

-- that the others of the slot had their turn, or a change of built event expressions
abbrev pub IsPlainUntil : Until → Type 0
IsPlainUntil Turn_in_slot = Unit {0}
IsPlainUntil (Watches ws scope) = AllByRecursion IsBuiltWatch ws
IsPlainUntil _ = ⊥

-- all prints but `$monitor`
abbrev pub IsPlainPrint : PrintKind → Type 0
IsPlainPrint print.Monitor = ⊥
IsPlainPrint _ = Unit {0}

-- an effect that a step of a built design may have
abbrev pub IsPlainEffect : Effect → Type 0
IsPlainEffect (Remain rest) = AllByRecursion IsPlainTodo rest
IsPlainEffect (Enter ts around) = AllByRecursion IsBuiltType ts
IsPlainEffect (Write s x) = IsPlainSpot s
IsPlainEffect (Suspend u) = IsPlainUntil u
IsPlainEffect (Resume_at t) = Unit {0}
IsPlainEffect (Update_at t j) = IsPlainJob j
IsPlainEffect (Spawn rs scope k) = Unit {0}
IsPlainEffect Await_children = Unit {0}
IsPlainEffect End_descendants = Unit {0}
IsPlainEffect (Print_text t) = Unit {0}
IsPlainEffect (Keep_print k ps es) = IsPlainPrint k
IsPlainEffect Finish_run = Unit {0}
IsPlainEffect End = Unit {0}
IsPlainEffect (Fail k) = Unit {0}
IsPlainEffect _ = ⊥
