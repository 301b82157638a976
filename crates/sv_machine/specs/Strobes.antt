-- What the strobes of a slot print (IEEE 1800-2017, 21.2.2).
use Rattle.std.specs.Prelude.{◌≡◌, ◌++◌, List, ◌∷◌, Option, None, Some}
use Rattle.sv_value.specs.declared.place.RunFault.{RunFault}
use Rattle.sv_flat.specs.declared.design.Parts.{Parts}
use Rattle.sv_flat.specs.Config.{Config, Strobe}
use Rattle.sv_flat.specs.Steps.{strobes_printed}
use Rattle.sv_assign.specs.Seen.{world_in}
use Rattle.sv_machine.specs.declared.machine.Machine.{Machine}
use Rattle.sv_machine.specs.declared.machine.Kept.{Kept}
use Rattle.sv_machine.specs.declared.line.Line.{Line}
use Rattle.sv_machine.specs.declared.strobes.Printed.{Printed}
use Rattle.sv_machine.specs.Log.{records_of}
use Rattle.sv_machine.specs.Machine.{StandsFor, strobe_at}

-- the machine keeps what strobes read, and no fault was met
pub record Shows (m : Machine) (c : Config) : Type 0 where
  pub time : m.time ≡ c.time
  pub world : world_in m.store m.activations.activations ≡ c.world
  pub going : c.fault ≡ None

-- the configuration with these lines printed, and this fault met
abbrev pub with_printed : Config → List Line → Option RunFault → Config
with_printed c ls fault = record c { records = c.records ++ records_of ls; fault = fault }

-- the strobes that are left print on, unless a fault was met
abbrev pub printed_on : Parts → List Strobe → Config → List Line → Option RunFault → Config
printed_on d ss c ls None = strobes_printed d ss (with_printed c ls None)
printed_on d ss c ls (Some fault) = with_printed c ls (Some fault)

-- behind the lines before, a strobe that was kept prints those after, or meets this fault
abbrev pub PrintsStrobe : Parts → Machine → Kept → (before after : List Line) → Option RunFault → Type 0
PrintsStrobe d m k before after fault =
    (c : Config) (ss : List Strobe) → Shows m c → strobes_printed d (strobe_at d k ∷ ss) (with_printed c before None) ≡ printed_on d ss c after fault

-- the strobes print these lines, up to this fault
abbrev pub PrintsStrobes : Parts → Machine → Printed → Type 0
PrintsStrobes d m p =
    (c : Config) → StandsFor d m c → strobes_printed d c.strobes c ≡ record c { records = c.records ++ records_of p.lines.items; fault = p.fault }
