-- What an effect leaves in a run of a built design, in short (IEEE 1800-2017, 4.4, 9.4, 10.4 and 21.2).
use Rattle.std.specs.Prelude.{ℕ, ◌+◌, ◌^◌, Bool, true, List, [], ◌∷◌, ◌++◌, ◌&&◌, Option, None, Some, length, map, remove, slice_set, nat_lt, if◌then◌else◌, ◌==◌}
use Rattle.sv_value.specs.declared.number.ProcessId.{ProcessId}
use Rattle.sv_value.specs.declared.number.RoutineId.{RoutineId}
use Rattle.sv_value.specs.declared.place.Place.{Place}
use Rattle.sv_value.specs.declared.place.FaultKind.TheVariants as fault
use Rattle.sv_value.specs.declared.val.Val.{Val}
use Rattle.sv_value.specs.declared.schedule.Due.TheVariants.{Resume}
use Rattle.sv_value.specs.Regions.{with_set, ready_in, front_of, idle_of}
use Rattle.sv_flat.specs.declared.object.DataType.{DataType}
use Rattle.sv_flat.specs.declared.process.Process.{Process}
use Rattle.sv_flat.specs.declared.process.ProcessKind.{ProcessKind}
use Rattle.sv_flat.specs.declared.process.ProcessKind.TheVariants as kind
use Rattle.sv_flat.specs.declared.process.Watch.{Watch}
use Rattle.sv_flat.specs.declared.design.Parts.{Parts}
use Rattle.sv_flat.specs.State.{Store, World, Name, Activation, first_value}
use Rattle.sv_flat.specs.Process
use Rattle.sv_flat.specs.Process.{ProcessState, Running, Waiting, Moment, Turn_in_slot, Watches, Children, Todo, Spot, Cell, body_in}
use Rattle.sv_flat.specs.Config.{Config, Strobe, with_process, all_made_ready, met_fault}
use Rattle.sv_flat.specs.Steps.{acting, front, is_starter, waiting_starters}
use Rattle.sv_flat.specs.Woken.{Changed, woken}
use Rattle.sv_flat.specs.Effects.Scheduling.{child_of}
use Rattle.sv_flat.specs.Effects.Writes.{changed_at, stored_over}

-- ---- a process in another state

-- a process in this state
abbrev pub with_state : ProcessId → ProcessState → Config → Config
with_state p q c = record c { processes = slice_set c.processes p.0 q }

-- what a process has still to run
abbrev pub remaining : ProcessId → ProcessState → List Todo → Config → Config
remaining p q rest c = with_state p (record q { rest = rest }) c

-- the process waits until a moment
abbrev pub waiting_until : ProcessId → ProcessState → ℕ → Config → Config
waiting_until p q t c =
    record (with_state p (record q { latest = Waiting Moment }) c) {
      running = None;
      future = c.future ++ record { time = t; region = front_of q.side; due = Resume p } ∷ [];
    }

-- the process waits for its turn in the slot
abbrev pub turned : ProcessId → ProcessState → Config → Config
turned p q c =
    record (with_state p (record q { latest = Waiting Turn_in_slot }) c) {
      running = None;
      regions = ready_in (idle_of q.side) p c.regions;
    }

-- the process waits for one of these changes, seen from a scope
abbrev pub watching : ProcessId → ProcessState → List Watch → Option Name → Config → Config
watching p q ws scope c = record (with_state p (record q { latest = Waiting (Watches ws scope) }) c) { running = None }

-- the process waits for children: for all of these, or for one
abbrev pub waiting_for : ProcessId → ProcessState → Bool → List ProcessId → Config → Config
waiting_for p q all rs c = record (with_state p (record q { latest = Waiting (Children all rs) }) c) { running = None }

-- a process more, which is ready: a child of one that is in this state
abbrev pub with_child : Parts → ProcessId → ProcessState → RoutineId → Option Name → Config → Config
with_child d p q r scope c =
    record c {
      processes = c.processes ++ child_of d p r scope q ∷ [];
      regions = ready_in (front_of q.side) (record { 0 = length c.processes }) c.regions;
    }

-- the process is over
abbrev pub over : ProcessId → ProcessState → Config → Config
over p q c = record (with_state p (record q { latest = Process.Ended; rest = [] }) c) { running = None }

-- the end of a body, by what the process comes from: it is over, begins again, or waits for a change of what it watches
abbrev pub at_end_of : Parts → Process → ProcessKind → ProcessId → ProcessState → Config → Config
at_end_of d f kind.Initial p q c = over p q c
at_end_of d f kind.Always p q c = remaining p q (body_in d f.body None) c
at_end_of d f kind.AlwaysFf p q c = remaining p q (body_in d f.body None) c
at_end_of d f k p q c = watching p (record q { rest = body_in d f.body None }) f.watched None c

-- ---- a change

-- all that has a value is this
abbrev pub with_values : World → Config → Config
with_values w c = record c { world = w }

-- all that has a value is this, and those whom the change wakes are ready
abbrev pub changed_in : Parts → World → Config → Config
changed_in d w c = all_made_ready (woken d Changed c (with_values w c)) (with_values w c)

-- the values of objects are these
abbrev pub with_store : Store → Config → Config
with_store s c = record c { world = record c.world { store = s } }

-- the values of objects are these, and those whom the change wakes are ready
abbrev pub changed_to : Parts → Store → Config → Config
changed_to d s c = changed_in d (record c.world { store = s }) c

-- a variable of an activation is this, and those whom the change wakes are ready
abbrev pub varied_to : Parts → List Activation → Config → Config
varied_to d as' c = changed_in d (record c.world { activations = as' }) c

-- the values of objects after a write
abbrev pub store_after : Spot → Val → Store → Store
store_after (Cell o i r) x s = changed_at s o.0 (stored_over i r x)
store_after _ x s = s

-- ---- activations

-- the activations are these
abbrev pub with_activations : List Activation → Config → Config
with_activations as' c = record c { world = record c.world { activations = as' } }

-- an activation more of a process, with the first values of variables of these types
abbrev pub entered_by : ProcessId → ProcessState → List DataType → Option Name → Config → Config
entered_by p q ts around c =
    with_state p (record q { made = q.made + 1 })
    (with_activations (c.activations ++ record { name = record { process = p; place = q.made }; around = around; values = map first_value ts } ∷ []) c)

-- an activation more, or the fault that there are too many
abbrev pub entering : Place → ProcessId → ProcessState → List DataType → Option Name → Config → Config
entering at p q ts around c = if nat_lt (length c.activations) (2 ^ 24) then entered_by p q ts around c else met_fault fault.Activations at c

-- ---- texts

-- a record more
abbrev pub recorded : ProcessState → List ℕ → Config → Config
recorded q t c = record c { records = c.records ++ record { side = q.side; text = t } ∷ [] }

-- a text that is printed as the slot ends
abbrev pub strobe_kept : Strobe → Config → Config
strobe_kept s c = record c { strobes = c.strobes ++ s ∷ [] }

-- ---- a process is taken

-- a process that is taken, before any `always_comb` starts
abbrev pub taken_short : ℕ → ProcessId → Config → Config
taken_short place p c =
    with_process p (λ q. record q { latest = Running; was_taken = true })
    (record c { running = Some p; regions = with_set (acting c) (record (front c) { ready = remove (front c).ready place }) c.regions })

-- the configuration in which it is not ready any more
abbrev pub taken_off : ℕ → Config → Config
taken_off place c = record c { regions = with_set (acting c) (record (front c) { ready = remove (front c).ready place }) c.regions }

-- whether it is the last starter
abbrev pub is_last : Parts → ℕ → ProcessId → Config → Bool
is_last d place p c = is_starter d (taken_off place c) p && (length (waiting_starters d (taken_short place p c)) == 0)
