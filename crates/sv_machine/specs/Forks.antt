-- What forks, `wait fork` and `disable fork` do to the fields of a machine (IEEE 1800-2017, 9.3.2, 9.6.1 and 9.6.3).
use Rattle.std.specs.Prelude.{◌≡◌, ◌^◌, ◌++◌, Bool, true, false, List, [], ◌∷◌, Option, None, Some, length, nat_lt, slice_get, slice_set, filter, map}
use Rattle.std.specs.List.{list_all}
use Rattle.sv_value.specs.declared.number.ProcessId.{ProcessId}
use Rattle.sv_value.specs.declared.number.RoutineId.{RoutineId}
use Rattle.sv_value.specs.declared.place.Place.{Place}
use Rattle.sv_value.specs.declared.place.FaultKind.TheVariants as fault
use Rattle.sv_value.specs.Regions.{ready_in, front_of, regions_without}
use Rattle.sv_flat.specs.declared.stmt.JoinKind.{JoinKind}
use Rattle.sv_flat.specs.declared.stmt.JoinKind.TheVariants as join
use Rattle.sv_flat.specs.declared.design.Parts.{Parts}
use Rattle.sv_flat.specs.State.{Name}
use Rattle.sv_flat.specs.Process.{ProcessState, Effect, Spawn, body_in}
use Rattle.sv_flat.specs.Config.{Config, all_made_ready, process_at}
use Rattle.sv_flat.specs.Effects.Ends.{all_ended, ended, joined, not_due_to}
use Rattle.sv_flat.specs.Effects.Scheduling.{children_from, spawned, started}
use Rattle.sv_fork.specs.Tree.{awaiting_in, ended_in, is_living_child, started_in}
use Rattle.sv_arena.specs.Made.{with_process}
use Rattle.sv_sense.specs.Sensed.{Covers}
use Rattle.sv_stack.specs.Frames.{todos_of}
use Rattle.sv_sound.proofs.Descendants.{MayEnd}
use Rattle.sv_machine.specs.declared.machine.Machine.{Machine}
use Rattle.sv_machine.specs.Machine.{StandsFor, Tracks}
use Rattle.sv_machine.specs.Wakes.{side_at}
use Rattle.sv_machine.specs.Steps.{Remains}

-- ---- forks

-- a process more, which is not ready yet
pub record HasMore (d : Parts) (r : RoutineId) (scope : Option Name) (m n : Machine) : Type 0 where
  pub is : n ≡ record m { processes = n.processes; taken = n.taken; sense = n.sense; activations = n.activations }
  pub left : map (todos_of d) n.processes.items ≡ map (todos_of d) m.processes.items ++ body_in d r scope ∷ []
  pub taken : n.taken.items ≡ m.taken.items ++ false ∷ []
  pub waits : n.sense.waits ≡ m.sense.waits ++ None ∷ []
  pub covers : Covers d n.sense
  pub made : n.activations ≡ with_process m.activations

-- a child of a process, which is ready; it has the next number
pub record HasChild (d : Parts) (p : ProcessId) (r : RoutineId) (scope : Option Name) (child : ProcessId) (m n : Machine) : Type 0 where
  pub room : nat_lt (length m.tree) (2 ^ 18) ≡ true
  pub number : child ≡ record { 0 = length m.tree }
  pub is : n ≡ record m { tree = n.tree; processes = n.processes; taken = n.taken; sense = n.sense; activations = n.activations; regions = n.regions }
  pub more : HasMore d r scope m (record n { tree = m.tree; regions = m.regions })
  pub tree : n.tree ≡ started_in p (slice_get m.tree p.0) m.tree
  pub regions : n.regions ≡ ready_in (front_of (side_at m.tree p)) (record { 0 = length m.tree }) m.regions

-- there is no room for a child
pub record HasNone (at : Place) (m n : Machine) : Type 0 where
  pub full : nat_lt (length m.tree) (2 ^ 18) ≡ false
  pub is : n ≡ record m { fault = Some (record { kind = fault.Processes; at = at; time = m.time }) }

-- a child where there is room for it, or a fault
abbrev pub StartsOne : Parts → Place → ProcessId → RoutineId → Option Name → Option ProcessId → (m n : Machine) → Type 0
StartsOne d at p r scope (Some child) m n = HasChild d p r scope child m n
StartsOne d at p r scope None m n = HasNone at m n

-- whatever the machine stood for, it tracks what the start of these children makes of it
abbrev pub Starts : Parts → Place → ProcessId → List RoutineId → Option Name → (m n : Machine) → Type 0
Starts d at p rs scope m n = (c : Config) (q : ProcessState) → StandsFor d m c → process_at c p ≡ Some q → Tracks d n (started d at p scope q rs c)

-- these children came behind the others, and live if the others do
pub record ChildrenOf (p : ProcessId) (rs : List RoutineId) (before after : List ProcessId) (m n : Machine) : Type 0 where
  pub all : after ≡ before ++ children_from (length m.tree) rs
  pub live : list_all (is_living_child m.tree p) before ≡ true → list_all (is_living_child n.tree p) after ≡ true

-- the process waits for children, where there are any
abbrev pub joining_in : ProcessId → Bool → List ProcessId → Machine → Machine
joining_in p all [] m = m
joining_in p all (q ∷ qs) m = record m { running = None; tree = awaiting_in p (record { all = all; children = q ∷ qs }) m.tree }

-- the same, as the join says
abbrev pub joined_in : ProcessId → JoinKind → List ProcessId → Machine → Machine
joined_in p join.All qs m = joining_in p true qs m
joined_in p join.Any qs m = joining_in p false qs m
joined_in p k qs m = m

-- what a fork makes of a configuration
abbrev pub spawned_in : Parts → Place → ProcessId → List RoutineId → Option Name → JoinKind → Config → Config
spawned_in d at p rs scope k c = spawned d at p rs scope k (process_at c p) c

-- the same, as the effect tells it
abbrev pub forked_in : Parts → Place → ProcessId → Effect → Config → Config
forked_in d at p (Spawn rs scope k) c = spawned_in d at p rs scope k c
forked_in d at p e c = c

-- ---- ends

-- what the end of a process that a fork made makes of a configuration
abbrev pub ended_forked : ProcessId → Config → Config
ended_forked p c = all_made_ready (joined (ended p c)) (ended p c)

-- another process is over
pub record EndsOne (d : Parts) (p : ProcessId) (m n : Machine) : Type 0 where
  pub is : n ≡ record m {
    tree = ended_in p m.tree;
    processes = n.processes;
    sense = n.sense;
    regions = regions_without p m.regions;
    wheel = record m.wheel { events = filter (not_due_to p) m.wheel.events };
  }
  pub left : Remains d p [] m n
  pub waits : n.sense.waits ≡ slice_set m.sense.waits p.0 None
  pub covers : Covers d n.sense

-- there is a configuration in which each of these may end while a process runs
pub record MayAllEnd (d : Parts) (p : ProcessId) (ps : List ProcessId) (m : Machine) : Type 0 where
  pub config : Config
  pub stands : StandsFor d m config
  pub may : MayEnd d p ps config

-- whatever it is, the machine stands for what their ends make of it
abbrev pub AllEnd : Parts → ProcessId → List ProcessId → (m n : Machine) → Type 0
AllEnd d p ps m n = (c : Config) → StandsFor d m c → MayEnd d p ps c → StandsFor d n (all_ended ps c)
