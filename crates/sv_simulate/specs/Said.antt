-- What a call says: its records, its closing line and its status.
use Rattle.std.specs.Prelude.{ℕ, ◌≡◌, ◌≢◌, ◌<◌, ◌≤◌, ◌+◌, ◌++◌, ◌∷◌, [], List, Option, Some, IsSome, true, codes, length, map, slice_get, unwrap_or, None}
use Rattle.std.specs.Fmt.{decimal}
use Rattle.sv_io.specs.Outside.{file_at}
use mathlib.Core.List.{IsPrefix}
use Rattle.sv_flat.specs.declared.choices.Choices.TheVariants.{Listed}
use Rattle.sv_value.specs.declared.place.FaultKind.{FaultKind}
use Rattle.sv_value.specs.declared.place.FaultKind.TheVariants as fault
use Rattle.sv_flat.specs.declared.design.Parts.{Parts}
use Rattle.sv_flat.specs.Config.{Config}
use Rattle.sv_flat.specs.Directed.{directed, log_text}
use Rattle.sv_kernel.specs.declared.outcome.Outcome.{Outcome}
use Rattle.sv_kernel.specs.declared.outcome.Outcome.TheVariants.{Done, Spent, Fault, LogFailed, Memory}
use Rattle.sv_kernel.specs.Outcomes.{outcome_of}
use Rattle.sv_simulate.specs.declared.front.FrontFault.{FrontFault}
use Rattle.sv_simulate.specs.declared.front.FrontFault.TheVariants as front
use Rattle.sv_simulate.specs.Source.{bytes_of, IsSource, Explains, refusal_text, syntax_text}
use Rattle.sv_words.specs.declared.words.Limits.{Limits}
use Rattle.sv_words.specs.Words.{Asked, asked}
use Rattle.sv_value.specs.declared.place.Place.{Place}

-- a line begins with the program's name
abbrev pub line : List ℕ → List ℕ
line text = codes "svsim: " ++ text ++ 10 ∷ []

-- a line of the program
abbrev pub IsLine : List ℕ → Type 0
IsLine bytes = (text : List ℕ) × (bytes ≡ line text)

-- a prefix of such a line
abbrev pub IsPrefixOfLine : List ℕ → Type 0
IsPrefixOfLine bytes = (text : List ℕ) × IsPrefix bytes (line text)

-- the run of a design with this list of choices of the Active side, and with at most so many steps
abbrev pub run_of : (active : List ℕ) → (steps : ℕ) → Parts → Config
run_of active steps d = directed d (Listed active) (Listed []) steps

-- the name of the file with this number: its place among the files
abbrev pub name_of : List (List ℕ) → ℕ → List ℕ
name_of files n = unwrap_or (slice_get files n) []

-- a place in a file with this name
abbrev pub place_text : List ℕ → Place → List ℕ
place_text file at = file ++ codes ":" ++ decimal at.line ++ codes ":" ++ decimal at.col

-- what a fault of a run is called
abbrev pub fault_text : FaultKind → List ℕ
fault_text fault.Null = codes "null reference"
fault_text fault.Cast = codes "failed cast"
fault_text fault.MessageType = codes "message of another type"
fault_text fault.Count = codes "bad count"
fault_text fault.Depth = codes "call depth"
fault_text fault.Objects = codes "too many objects"
fault_text fault.Activations = codes "too many activations"
fault_text fault.Processes = codes "too many processes"
fault_text fault.Items = codes "too many items"
fault_text fault.Length = codes "text too long"
fault_text fault.Time = codes "time too large"

-- the closing line of a run of the design of these files, of at most so many steps
abbrev pub closing : List (List ℕ) → ℕ → ℕ → Outcome → List ℕ
closing files steps time Done = line (codes "done at " ++ decimal time)
closing files steps time Spent = line (codes "stopped after " ++ decimal steps ++ codes " steps at " ++ decimal time)
closing files steps time (Fault f) =
    line (place_text (name_of files f.at.file) f.at ++ codes ": " ++ fault_text f.kind ++ codes " at " ++ decimal f.time)
closing files steps time LogFailed = []
closing files steps time Memory = []

-- the exit status of a run that ended so
abbrev pub status_of : Outcome → ℕ
status_of Done = 0
status_of Spent = 3
status_of (Fault f) = 4
status_of LogFailed = 6
status_of Memory = 8

-- what a call says
pub record Said : Type 0 where
  pub records : List ℕ
  pub closing : List ℕ
  pub status : ℕ

-- what the call of a run says
abbrev pub said_of_run : List (List ℕ) → ℕ → Config → Said
said_of_run files steps c = record { records = log_text true c; closing = closing files steps c.time (outcome_of c); status = status_of (outcome_of c) }

-- the closing line of a text with this name that is refused at a place
abbrev pub refused_at : List ℕ → Place → List ℕ → List ℕ
refused_at file at what = line (place_text file at ++ codes ": refused: " ++ what)

-- the first place of the first file
abbrev pub first_place : Place
first_place = record { file = 0; line = 1; col = 1 }

-- the closing line of files that have no design
abbrev pub refusal : List (List ℕ) → FrontFault → List ℕ
refusal files (front.Lexical at kind) = refused_at (name_of files at.file) at (refusal_text kind)
refusal files (front.Syntax at kind) = refused_at (name_of files at.file) at (syntax_text kind)
refusal files (front.Rule n at) = refused_at (name_of files at.file) at (codes "E" ++ decimal n)
refusal files front.NotYet = refused_at (name_of files 0) first_place (codes "not yet")
refusal files front.Memory = []

-- the limits of the program (own)
abbrev pub limits : Limits
limits = record { bytes = 8388608; most_steps = 1099511627776; usual_steps = 10000000 }

-- ---- the shelf

-- the files of a shelf, where it tells them: the bytes under each name
abbrev pub Files : Type 0
Files = Option (List ℕ → Option (List ℕ))

-- the shelf has these texts under these names
abbrev pub Has : Files → (names texts : List (List ℕ)) → Type 0
Has files names texts = (length texts ≡ length names) × (IsSome files → map (file_at files) names ≡ map Some texts)

-- it is this file's turn to be fetched: those before it have texts, which are not too long together
pub record IsTurn (files : Files) (limit : ℕ) (names : List (List ℕ)) (name : List ℕ) : Type 0 where
  pub before : List (List ℕ)
  pub after : List (List ℕ)
  pub parts : names ≡ before ++ name ∷ after
  pub fetched : List (List ℕ)
  pub has : Has files before fetched
  pub short : bytes_of fetched ≤ limit

-- ---- what is to be said

-- what is to be said on the texts of the files that are asked for
pub data SaysOn (a : Asked) (texts : List (List ℕ)) : Said → Type 0 where
  refused : (fault : FrontFault) → fault ≢ front.Memory → Explains texts a.top fault
      → SaysOn a texts (record { records = []; closing = refusal a.files fault; status = 1 })
  runs : (d : Parts) → IsSource texts a.top d → SaysOn a texts (said_of_run a.files a.steps (run_of a.active a.steps d))

-- the words ask for a run of the texts that the files have, and this is where it stands behind its steps
pub record Runs (l : Limits) (words : List (List ℕ)) (files : Files) (c : Config) : Type 0 where
  pub simulation : Asked
  pub texts : List (List ℕ)
  pub design : Parts
  pub asks : asked l words ≡ Some simulation
  pub has : Has files simulation.files texts
  pub short : bytes_of texts ≤ l.bytes
  pub source : IsSource texts simulation.top design
  pub run : c ≡ run_of simulation.active simulation.steps design

-- what is to be said to these words, by the files of a shelf
pub data Says (l : Limits) (words : List (List ℕ)) (files : Files) : Said → Type 0 where
  usage : asked l words ≡ None → Says l words files (record { records = []; closing = line (codes "bad command line"); status = 2 })
  too_long : (a : Asked) (name text : List ℕ) → asked l words ≡ Some a → (turn : IsTurn files l.bytes a.files name)
      → (IsSome files → file_at files name ≡ Some text) → l.bytes < bytes_of turn.fetched + length text
      → Says l words files (record { records = []; closing = line (name ++ codes ": too long"); status = 5 })
  on_texts : {said : Said} → (a : Asked) (texts : List (List ℕ)) → asked l words ≡ Some a → Has files a.files texts → bytes_of texts ≤ l.bytes
      → SaysOn a texts said → Says l words files said
