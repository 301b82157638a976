-- What is printed, as records and as bytes (IEEE 1800-2017, 21.2.1).
use Rattle.std.specs.Prelude.{ℕ, List, [], ◌∷◌, ◌++◌, map}
use Rattle.sv_flat.specs.Config.{Record}
use Rattle.sv_machine.specs.declared.line.Line.{Line}

-- the record of a line
abbrev pub record_of : Line → Record
record_of l = record { side = l.side; text = l.text }

-- the records that a step adds
abbrev pub records_of : List Line → List Record
records_of ls = map record_of ls

-- the texts of lines, one behind the other
abbrev pub texts_of : List Line → List ℕ
texts_of [] = []
texts_of (l ∷ ls) = l.text ++ texts_of ls
