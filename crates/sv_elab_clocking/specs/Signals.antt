-- The signals of clocking blocks, in steps (IEEE 1800-2017, 14.3).
use Rattle.std.specs.Prelude.{ℕ, List, [], ◌∷◌, Option, Some, None, if◌then◌else◌}
use Rattle.sv_flat.specs.declared.clocking.Input.{Input}
use Rattle.sv_flat.specs.declared.clocking.Output.{Output}
use Rattle.sv_tree.specs.declared.word.Name.{Name}
use Rattle.sv_tree.specs.Units.{Sided}
use Rattle.sv_names.specs.declared.checked.Checked.{Checked}
use Rattle.sv_names.specs.declared.named.Named.{Named}
use Rattle.sv_names.specs.declared.named.SignalInfo.{SignalInfo}
use Rattle.sv_names.specs.Checked.{given, each}
use Rattle.sv_names.specs.Clockings.{Skews, MadeSignal, input_skew, output_skew, net_of, signal_made, signal_named}
use Rattle.sv_names.specs.Named.{Around}
use Rattle.sv_names.specs.Scopes.{signal_of_named}
use Rattle.sv_names.specs.Types.{Path}

-- what makes a signal an input
abbrev pub input_of : Around → Option ℕ → SignalInfo → Option Input
input_of ar n s = if s.is_input then Some (record { skew = input_skew n; sample = ar.numbers.object s.sample }) else None

-- what makes a signal an output
abbrev pub output_of : Option ℕ → SignalInfo → (driver : ℕ) → Option Output
output_of n s d = if s.is_output then Some (record { skew = output_skew n; driver = d }) else None

-- a path, where there is one
abbrev pub paths_of : Option Path → List Path
paths_of None = []
paths_of (Some p) = p ∷ []

-- the net that a signal drives
abbrev pub drives : SignalInfo → Named → List Path
drives s x = if s.is_output then net_of x else []

-- a signal by what its name stands for
abbrev pub signal_meant : Around → Path → Skews → List Sided → Name → Named → Checked MadeSignal
signal_meant ar p k ds n x = given (λ s. signal_made ar k n s x) (signal_of_named ar.unit p n ds x)

-- a list of one
abbrev pub one_in_list : Checked MadeSignal → Checked (List MadeSignal)
one_in_list c = given (λ m. m ∷ []) c

-- the signals of some names
abbrev pub signals_named : Around → Path → Skews → List Sided → List Name → Checked (List MadeSignal)
signals_named ar p k ds ns = each (signal_named ar p k ds) ns
