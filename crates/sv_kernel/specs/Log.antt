-- What is printed, as records and as bytes (IEEE 1800-2017, 21.2.1).
use Rattle.std.specs.Prelude.{ℕ, ◌≡◌, List, [], ◌∷◌, ◌++◌}
use Rattle.sv_flat.specs.declared.design.Parts.{Parts}
use Rattle.sv_flat.specs.Config.{Config}
use Rattle.sv_machine.specs.declared.line.Line.{Line}
use Rattle.sv_machine.specs.declared.machine.Machine.{Machine}
use Rattle.sv_machine.specs.Log.{records_of}
use Rattle.sv_machine.specs.Machine.{StandsFor}

-- the texts of lines, one behind the other
abbrev pub texts_of : List Line → List ℕ
texts_of [] = []
texts_of (l ∷ ls) = l.text ++ texts_of ls

-- the records that a step adds, whatever the machine stood for, are those of these lines
abbrev pub AddsRecords : Parts → Machine → (Config → Config) → List Line → Type 0
AddsRecords d m f ls = (c : Config) → StandsFor d m c → (f c).records ≡ c.records ++ records_of ls
