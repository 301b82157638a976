-- What effects do to the fields of a machine.
use Rattle.std.specs.Prelude.{ℕ, ◌≡◌, ◌^◌, ◌++◌, ◌==◌, List, [], ◌∷◌, Option, None, Some, length, nat_lt, slice_set, map, if◌then◌else◌}
use Rattle.sv_value.specs.declared.number.ProcessId.{ProcessId}
use Rattle.sv_value.specs.declared.place.Place.{Place}
use Rattle.sv_value.specs.declared.place.FaultKind.TheVariants as fault
use Rattle.sv_value.specs.declared.val.Val.{Val}
use Rattle.sv_value.specs.declared.schedule.Side.{Side}
use Rattle.sv_value.specs.declared.schedule.Job.{Job}
use Rattle.sv_value.specs.declared.schedule.Due.TheVariants.{Resume, Work}
use Rattle.sv_value.specs.Regions.{ready_in, job_in, front_of, idle_of, updates_of}
use Rattle.sv_flat.specs.declared.process.Process.{Process}
use Rattle.sv_flat.specs.declared.process.ProcessKind.{ProcessKind}
use Rattle.sv_flat.specs.declared.process.ProcessKind.TheVariants as kind
use Rattle.sv_flat.specs.declared.design.Parts.{Parts}
use Rattle.sv_flat.specs.declared.object.DataType.{DataType}
use Rattle.sv_flat.specs.State.{Name, first_value}
use Rattle.sv_flat.specs.Config.{Config}
use Rattle.sv_flat.specs.Effects.Writes.{variable_over}
use Rattle.sv_flat.specs.Process.{Todo, Spot, Variable_of, Effect, Enter, body_in}
use Rattle.sv_built.specs.declared.wait.Wait.TheVariants as wait
use Rattle.sv_fork.specs.Tree.{ended_in}
use Rattle.sv_arena.specs.Made.{entered}
use Rattle.sv_sense.specs.declared.waiter.Waiter.{Waiter}
use Rattle.sv_sense.specs.Sensed.{Covers}
use Rattle.sv_sound.specs.After.{changed_to, varied_to, store_after}
use Rattle.sv_stack.specs.Frames.{todos_of}
use Rattle.sv_stack.specs.Effects.{effects_in}
use Rattle.sv_stack.specs.declared.effect.Effect.{Effect as Own_effect}
use Rattle.sv_stack.specs.declared.went.Went.{Went}
use Rattle.sv_stack.specs.declared.went.Went.TheVariants as went
use Rattle.sv_built.specs.Entered.{types_at}
use Rattle.sv_machine.specs.declared.machine.Machine.{Machine}

-- a value at a place, and those whom the change wakes are ready
abbrev pub assigned_in : Parts → Spot → Val → Config → Config
assigned_in d (Variable_of n i r) x c = varied_to d (variable_over n i r x c.activations) c
assigned_in d s x c = changed_to d (store_after s x c.store) c

-- a process makes an activation with variables of these types, or meets the fault that there are too many
abbrev pub entering_in : Place → ProcessId → List DataType → Option Name → Machine → Machine
entering_in at p ts around m =
    if nat_lt (length m.activations.activations) (2 ^ 24)
    then record m { activations = entered m.activations p around (map first_value ts) }
    else record m { fault = Some (record { kind = fault.Activations; at = at; time = m.time }) }

-- the effects of a step but for what is left to run: an activation that was made first, and the others
abbrev pub effects_done : Parts → Went → List Own_effect → List Effect
effects_done d went.On es = effects_in d es
effects_done d went.Held es = effects_in d es
effects_done d (went.Entered e around) es = Enter (types_at d e) around ∷ effects_in d es
effects_done d (went.EnteredHeld e around) es = Enter (types_at d e) around ∷ effects_in d es

-- a process waits for its turn in the slot
abbrev pub turned_in : ProcessId → Side → Machine → Machine
turned_in p s m = record m { running = None; regions = ready_in (idle_of s) p m.regions }

-- a process waits for a change
pub record WaitsFor (d : Parts) (p : ProcessId) (w : Waiter) (m n : Machine) : Type 0 where
  pub is : n ≡ record m { running = None; sense = n.sense }
  pub waits : n.sense.waits ≡ slice_set m.sense.waits p.0 (Some w)
  pub covers : Covers d n.sense

-- a process waits until a moment
abbrev pub resuming_at : ProcessId → Side → ℕ → Machine → Machine
resuming_at p s t m =
    record m { running = None; wheel = record m.wheel { events = m.wheel.events ++ record { time = t; region = front_of s; due = Resume p } ∷ [] } }

-- a job is scheduled
abbrev pub updating_at : Side → ℕ → Job → Machine → Machine
updating_at s t j m =
    if t == m.time then record m { regions = job_in (updates_of s) j m.regions }
    else record m { wheel = record m.wheel { events = m.wheel.events ++ record { time = t; region = updates_of s; due = Work j } ∷ [] } }

-- a process has this left to run, and nothing else is new in the machine but what it waits for
pub record Remains (d : Parts) (p : ProcessId) (rest : List Todo) (m n : Machine) : Type 0 where
  pub remaining : map (todos_of d) n.processes.items ≡ slice_set (map (todos_of d) m.processes.items) p.0 rest

-- a process that is over
pub record IsOver (d : Parts) (p : ProcessId) (m n : Machine) : Type 0 where
  pub is : n ≡ record m { running = None; tree = ended_in p m.tree; processes = n.processes }
  pub left : Remains d p [] m n

-- a process that begins again
pub record BeginsAgain (d : Parts) (f : Process) (p : ProcessId) (m n : Machine) : Type 0 where
  pub is : n ≡ record m { processes = n.processes }
  pub left : Remains d p (body_in d f.body None) m n

-- a process that waits for a change of what it watches, to begin again
pub record WaitsAgain (d : Parts) (f : Process) (p : ProcessId) (m n : Machine) : Type 0 where
  pub is : n ≡ record m { running = None; processes = n.processes; sense = n.sense }
  pub left : Remains d p (body_in d f.body None) m n
  pub waits : n.sense.waits ≡ slice_set m.sense.waits p.0 (Some (record { wait = wait.Watched p; scope = None }))
  pub covers : Covers d n.sense

-- the end of a body, by what the process comes from
abbrev pub EndsAs : Parts → Process → ProcessId → ProcessKind → Machine → Machine → Type 0
EndsAs d f p kind.Initial m n = IsOver d p m n
EndsAs d f p kind.Always m n = BeginsAgain d f p m n
EndsAs d f p kind.AlwaysFf m n = BeginsAgain d f p m n
EndsAs d f p k m n = WaitsAgain d f p m n
