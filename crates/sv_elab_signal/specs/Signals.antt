-- The signals of a clocking block (IEEE 1800-2017, 14.3).
use Rattle.std.specs.Prelude.{ℕ, ◌&&◌, ◌==◌, if◌then◌else◌, List, map}
use Rattle.sv_tree.specs.declared.word.Name.{Name}
use Rattle.sv_tree.specs.Units.{Sided}
use Rattle.sv_names.specs.declared.checked.Checked.{Checked}
use Rattle.sv_names.specs.declared.checked.Checked.TheVariants.{Good, Broken}
use Rattle.sv_names.specs.declared.checked.Fault.{Fault}
use Rattle.sv_names.specs.declared.named.Named.{Named}
use Rattle.sv_names.specs.declared.named.SignalInfo.{SignalInfo}
use Rattle.sv_names.specs.Checked.{broken_at, same_place, ◌where_also◌}
use Rattle.sv_names.specs.Named.{Around, meaning, kind_stands, is_object_kind}
use Rattle.sv_names.specs.Scopes.{signal_of_named}
use Rattle.sv_names.specs.Types.{Path}

-- E46: also where a name needs itself
abbrev pub untold : Name → Fault → Checked SignalInfo
untold n f = if (f.rule == 7) && same_place f.at n.at then broken_at 46 n.at else Broken f

-- a signal by what its name stands for
abbrev pub signal_meant : Path → Path → List Sided → Name → Checked Named → Checked SignalInfo
signal_meant u s ds n (Good x) = signal_of_named u s n ds x
signal_meant u s ds n (Broken f) = untold n f

-- what the name of an object stands for
abbrev pub object_meant : Around → ℕ → Name → Checked Named
object_meant ar r n = meaning ar n where_also kind_stands ar r n.at is_object_kind n.text

-- a signal by its name
abbrev pub signal_called : Around → Path → List Sided → Name → Checked SignalInfo
signal_called ar s ds n = signal_meant ar.unit s ds n (object_meant ar 46 n)

-- the signals of some names
abbrev pub signals_called : Around → Path → List Sided → List Name → List (Checked SignalInfo)
signals_called ar s ds ns = map (signal_called ar s ds) ns
