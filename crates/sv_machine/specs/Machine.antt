-- How a machine keeps a configuration.
use Rattle.std.specs.Prelude.{ℕ, ◌≡◌, ◌≤◌, ◌<◌, ◌+◌, ◌^◌, ◌++◌, Bool, false, List, [], Option, None, Some, IsNone, map}
use Rattle.sv_value.specs.declared.number.ProcessId.{ProcessId}
use Rattle.sv_value.specs.declared.schedule.Side.{Side}
use Rattle.sv_value.specs.declared.schedule.Phase.{Phase}
use Rattle.sv_value.specs.declared.schedule.Event.{Event}
use Rattle.sv_value.specs.Regions.{Regions}
use Rattle.sv_flat.specs.declared.design.Parts.{Parts}
use Rattle.sv_flat.specs.declared.stmt.Stmt.{Stmt}
use Rattle.sv_flat.specs.declared.stmt.Form.{Form}
use Rattle.sv_flat.specs.declared.stmt.Form.TheVariants as form
use Rattle.sv_flat.specs.State.{Store, Activation}
use Rattle.sv_value.specs.declared.place.Place.{Place}
use Rattle.sv_flat.specs.Process.{ProcessState, Todo}
use Rattle.sv_flat.specs.Config.{Config, Strobe, Record}
use Rattle.sv_built.specs.Positions.{stmt_at}
use Rattle.sv_sound.specs.Sound.{IsSound, pending_count}
use Rattle.sv_fork.specs.Tree.{Member, member_of, is_over_in}
use Rattle.sv_sense.specs.Sensed.{Covers}
use Rattle.sv_stack.specs.Frames.{todos_of}
use Rattle.sv_machine.specs.declared.machine.Machine.{Machine}
use Rattle.sv_machine.specs.declared.machine.Kept.{Kept}
use Rattle.sv_machine.specs.declared.line.Line.{Line}
use Rattle.sv_machine.specs.Log.{records_of}
use Rattle.sv_machine.specs.Waits.{Awaited, awaited_at, awaited_by}

-- ---- parts of what is kept

-- what a process has still to run
abbrev pub rest_of : ProcessState → List Todo
rest_of q = q.rest

-- whether it ever ran
abbrev pub was_taken : ProcessState → Bool
was_taken q = q.was_taken

-- how many activations it made
abbrev pub made_of : ProcessState → ℕ
made_of q = q.made

-- the pieces and values of a print
abbrev pub printing : Side → Place → Form → Strobe
printing side at (form.Print k ps es) = record { side = side; at = at; pieces = ps; values = es }
printing side at f = record { side = side; at = at; pieces = []; values = [] }

-- the strobe of a statement
abbrev pub strobe_of : Side → Place → Option Stmt → Strobe
strobe_of side at None = record { side = side; at = at; pieces = []; values = [] }
strobe_of side at (Some s) = printing side at s.form

-- what a strobe prints that was kept
abbrev pub strobe_at : Parts → Kept → Strobe
strobe_at d k = strobe_of k.side k.at (stmt_at d k.position)

-- ---- what is kept

-- what a machine keeps of a configuration; the records are not kept
pub record Picture : Type 0 where
  pub time : ℕ
  pub phase : Phase
  pub executed : Side
  pub finishing : Bool
  pub running : Option ProcessId
  pub store : Store
  pub activations : List Activation
  -- by process number
  pub family : List Member
  pub made : List ℕ
  pub remaining : List (List Todo)
  pub waiting : List (Option Awaited)
  pub taken : List Bool
  -- how many starters were not taken yet
  pub starters : ℕ
  pub strobes : List Strobe
  pub regions : Regions
  pub future : List Event
  pub used_active : ℕ
  pub used_reactive : ℕ

-- as the fields of the machine tell it
abbrev pub of_machine : Parts → Machine → Picture
of_machine d m =
    record {
      time = m.time;
      phase = m.phase;
      executed = m.executed;
      finishing = m.finishing;
      running = m.running;
      store = m.store;
      activations = m.activations.activations;
      family = m.tree;
      made = m.activations.made;
      remaining = map (todos_of d) m.processes.items;
      waiting = map (awaited_at d) m.sense.waits;
      taken = m.taken.items;
      starters = m.starters;
      strobes = map (strobe_at d) m.strobes.items;
      regions = m.regions;
      future = m.wheel.events;
      used_active = m.used_active;
      used_reactive = m.used_reactive;
    }

-- as a configuration has it
abbrev pub of_config : Parts → Config → Picture
of_config d c =
    record {
      time = c.time;
      phase = c.phase;
      executed = c.executed;
      finishing = c.finishing;
      running = c.running;
      store = c.store;
      activations = c.activations;
      family = map member_of c.processes;
      made = map made_of c.processes;
      remaining = map rest_of c.processes;
      waiting = map awaited_by c.processes;
      taken = map was_taken c.processes;
      starters = pending_count d.processes c.processes;
      strobes = c.strobes;
      regions = c.regions;
      future = c.future;
      used_active = c.used_active;
      used_reactive = c.used_reactive;
    }

-- the process that runs, if there is one, is not over
abbrev pub IsAlive : List Member → Option ProcessId → Type 0
IsAlive ms None = Unit {0}
IsAlive ms (Some p) = is_over_in ms p ≡ false

-- The machine keeps all that it has to keep of a configuration.
pub record Stands (d : Parts) (m : Machine) (c : Config) : Type 0 where
  pub picture : of_machine d m ≡ of_config d c
  -- who waits is found by what it waits for
  pub covers : Covers d m.sense
  pub alive : IsAlive m.tree m.running
  pub last : m.wheel.last ≤ m.time

-- After a fault only the fault and the time are kept.
pub record Tracks (d : Parts) (m : Machine) (c : Config) : Type 0 where
  pub time : m.time ≡ c.time
  pub fault : m.fault ≡ c.fault
  pub going : IsNone c.fault → Stands d m c

-- ---- what calls make of it

-- the machine stands for a configuration of a run that may go on
pub record StandsFor (d : Parts) (m : Machine) (c : Config) : Type 0 where
  pub sound : IsSound d c
  pub going : IsNone c.fault
  pub fault : m.fault ≡ c.fault
  pub stands : Stands d m c

-- there is such a configuration
pub record IsAt (d : Parts) (m : Machine) : Type 0 where
  pub config : Config
  pub stands : StandsFor d m config

-- and there are numbers of choices that are not used
pub record IsSteady (d : Parts) (m : Machine) : Type 0 where
  pub at : IsAt d m
  pub used_active : m.used_active + 1 < 2 ^ 64
  pub used_reactive : m.used_reactive + 1 < 2 ^ 64

-- whatever the machine stood for, it tracks what this makes of it
abbrev pub Makes : Parts → (old new : Machine) → (Config → Config) → Type 0
Makes d m n f = (c : Config) → StandsFor d m c → Tracks d n (f c)

-- the records that this adds are those of the lines that are added
abbrev pub AddsLines : Parts → Machine → (Config → Config) → (before after : List Line) → Type 0
AddsLines d m f before after =
    (c : Config) (rs : List Record) → StandsFor d m c → c.records ≡ rs ++ records_of before → (f c).records ≡ rs ++ records_of after

-- both
pub record Does (d : Parts) (m n : Machine) (f : Config → Config) (before after : List Line) : Type 0 where
  pub makes : Makes d m n f
  pub adds : AddsLines d m f before after

-- nothing is new but values, and with them waits and regions
abbrev pub SameButValues : (old new : Machine) → Type 0
SameButValues m n = n ≡ record m { store = n.store; sense = n.sense; regions = n.regions }

-- the moment and the side whose set acts stay
pub record SameMoment (m n : Machine) : Type 0 where
  pub time : n.time ≡ m.time
  pub executed : n.executed ≡ m.executed
