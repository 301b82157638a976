-- What touches, writes and writers of the code stand for.
use Rattle.std.specs.Prelude.{◌≡◌, ℕ, ◌++◌, List, map, Option, Some, None}
use Rattle.sv_flat.specs.declared.object.Bounds.{Bounds}
use Rattle.sv_names.specs.declared.element.Element.TheVariants as element
use Rattle.sv_names.specs.declared.ty.Ty.TheVariants as ty
use Rattle.sv_names.specs.Types.{Path, size_of_type}
use Rattle.sv_names.specs.Writers as writers
use Rattle.sv_names.specs.Sources as sources
use Rattle.sv_elab_writers.specs.declared.touch.Touch.{Touch}
use Rattle.sv_elab_writers.specs.declared.touch.Touch.TheVariants as touch
use Rattle.sv_elab_writers.specs.declared.touch.Writer.{Writer}
use Rattle.sv_elab_writers.specs.declared.touch.Writer.TheVariants as writer
use Rattle.sv_elab_writers.specs.declared.touch.Routine.{Routine}
use Rattle.sv_elab_writers.specs.declared.touch.Process.{Process}
use Rattle.sv_elab_writers.specs.declared.touch.Met.{Met}
use Rattle.sv_elab_writers.specs.declared.touch.Initialized.{Initialized}
use Rattle.sv_elab_writers.specs.declared.rows.Row.{Row}
use Rattle.sv_elab_writers.specs.declared.rows.Source.{Source}
use Rattle.sv_elab_writers.specs.declared.writes.Write.{Write}

-- the elements of what is declared with these bounds
abbrev pub elements_in : Option Bounds → ℕ
elements_in None = 0
elements_in (Some b) = size_of_type (ty.Fixed b element.Text)

-- what a statement does
abbrev pub touch_in : Touch → writers.Touch
touch_in (touch.Writes at p) = writers.Writes at p
touch_in (touch.Calls p) = writers.Calls p
touch_in (touch.CallsVirtual p x) = writers.Calls_virtual p x
touch_in (touch.Declares at o b) = writers.Declares at o (elements_in b)

-- how a process writes
abbrev pub writer_in : Writer → writers.Writer
writer_in writer.Continuously = writers.Continuously
writer_in writer.Alone = writers.Alone
writer_in writer.Shared = writers.Shared
writer_in writer.NoProcess = writers.No_process

-- the touches of a subroutine by its path
abbrev pub routine_in : Routine → Path × List writers.Touch
routine_in r = (r.path, map touch_in r.touches)

-- a process with its touches
abbrev pub process_in : Process → sources.Process
process_in p = record { at = p.at; writer = writer_in p.writer; touches = map touch_in p.touches }

-- what is met on the walk
abbrev pub met_in : Met → sources.Met
met_in m =
    record { declared = map touch_in m.declared; processes = map process_in m.processes; table = map routine_in m.table }

-- a variable with an initializer
abbrev pub initialized_in : Initialized → writers.Initialized
initialized_in i = (i.object, i.at)

-- a row of the table
abbrev pub row_in : Row → Path × List writers.Touch
row_in r = (r.path.now, map touch_in r.touches.now)

-- a process with its number
abbrev pub source_in : Source → writers.Source
source_in s = record { process = s.process; writer = writer_in s.writer; touches = map touch_in s.touches.now }

-- an object that a process writes
abbrev pub write_in : Write → writers.Write
write_in w = record { at = w.at; object = w.object.now; process = w.process; writer = writer_in w.writer }

-- writes that are put behind others
abbrev pub Written : List Write → List Write → List writers.Write → Type 0
Written before after ws = map write_in after ≡ map write_in before ++ ws
