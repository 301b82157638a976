-- What is left where the words are answered, up to the closing line: a working form, not needed to know what a call leaves.
use Rattle.std.specs.Prelude.{ℕ, ◌≡◌, ◌≢◌, ◌<◌, ◌≤◌, ◌+◌, ◌++◌, true, codes, length, List, [], Option, Some, IsSome, Result, Ok, Err, IfOk, IsErrOf, Vec, string_bytes, ◌⊎◌}
use Rattle.std.specs.Global.{Global}
use Rattle.sv_io.specs.Faults.{Rose}
use Rattle.sv_io.specs.Outside.{appended, file_at}
use mathlib.Core.List.{IsPrefix}
use Rattle.sv_flat.specs.declared.design.Parts.{Parts}
use Rattle.sv_flat.specs.Config.{Record}
use Rattle.sv_flat.specs.Directed.{log_of, log_text}
use Rattle.sv_simulate.specs.declared.answer.FetchFault.{FetchFault}
use Rattle.sv_simulate.specs.declared.answer.FetchFault.TheVariants as fetch
use Rattle.sv_simulate.specs.declared.run.Closing.{Closing}
use Rattle.sv_simulate.specs.declared.run.Cut.{Cut}
use Rattle.sv_simulate.specs.declared.run.Cut.TheVariants.{LogFailed, Memory}
use Rattle.sv_words.specs.declared.words.Limits.{Limits}
use Rattle.sv_simulate.specs.Said.{Said, Files, Has, IsTurn, Says, IsLine, line, run_of}
use Rattle.sv_simulate.specs.Simulated.{NoFault, IsPrefixOfRecords, AreRecords, IsAllSaid, Awaits, NamesFile}
use Rattle.sv_simulate.specs.Source.{bytes_of, contents, IsSource}
use Rattle.sv_words.specs.Words.{Asked}

-- what is seen of a shelf over a call: its files, its faults before and after, and the name for which it failed last
pub record ShelfSeen : Type 0 where
  pub files : Files
  pub before : ℕ
  pub after : ℕ
  pub failed : Option (List ℕ)

-- what is seen of a log over a call: its bytes and its faults, before and after
pub record LogSeen : Type 0 where
  pub old : Option (List ℕ)
  pub new : Option (List ℕ)
  pub before : ℕ
  pub after : ℕ

-- what is seen of a shelf
abbrev pub shelf_seen : {S : Type 0} → (files : S → Files) → (faults : S → ℕ) → (failed : S → Option (List ℕ)) → (before after : S) → ShelfSeen
shelf_seen files faults failed before after = record { files = files before; before = faults before; after = faults after; failed = failed after }

-- what is seen of a log
abbrev pub log_seen : {S : Type 0} → (bytes : S → Option (List ℕ)) → (faults : S → ℕ) → (before after : S) → LogSeen
log_seen bytes faults before after = record { old = bytes before; new = bytes after; before = faults before; after = faults after }

-- the records of what is said were put, and its closing line and status are given
abbrev pub Gives : (Said → Type 0) → LogSeen → Closing → Type 0
Gives says o c = (said : Said) × says said × (o.new ≡ appended o.old said.records) × (string_bytes c.line ≡ said.closing) × (c.status ≡ said.status)

-- the words ask for a file, which could not be read, and nothing was put
pub record IsNotRead (l : Limits) (words : List (List ℕ)) (s : ShelfSeen) (o : LogSeen) (c : Closing) : Type 0 where
  pub name : List ℕ
  pub awaits : Awaits l words s.files name
  pub failed : s.failed ≡ Some name
  pub line_is : string_bytes c.line ≡ line (name ++ codes ": not read")
  pub status_is : c.status ≡ 5
  pub nothing : o.new ≡ o.old

-- files with these names were fetched, in their order and within a limit, or the one whose turn it was is named
abbrev pub Fetched : (limit : ℕ) → (names : List (List ℕ)) → ShelfSeen → Result (Vec (Vec ℕ Global) Global) FetchFault → Type 0
Fetched limit names s (Ok texts) = Has s.files names (contents texts.items) × (bytes_of (contents texts.items) ≤ limit) × (s.after ≡ s.before)
Fetched limit names s (Err (fetch.Long name)) =
    (turn : IsTurn s.files limit names name.now) × (text : List ℕ) × (IsSome s.files → file_at s.files name.now ≡ Some text)
    × (limit < bytes_of turn.fetched + length text) × (s.after ≡ s.before)
Fetched limit names s (Err (fetch.Failed name)) = IsTurn s.files limit names name.now × Rose s.before s.after × (s.failed ≡ Some name.now)
Fetched limit names s (Err fetch.Memory) = s.after ≡ s.before

-- records of the run of the texts were put: a prefix of them
abbrev pub PutsRecords : Asked → List (List ℕ) → LogSeen → Type 0
PutsRecords a texts o =
    (records : List ℕ) × ((records ≡ []) ⊎ ((d : Parts) × IsSource texts a.top d × IsPrefix records (log_text true (run_of a.active a.steps d))))
    × (o.new ≡ appended o.old records)

-- the first records of the run of the texts were put, each whole
abbrev pub PutsWhole : Asked → List (List ℕ) → LogSeen → Type 0
PutsWhole a texts o =
    (bytes : List ℕ)
    × ((bytes ≡ [])
    ⊎ ((d : Parts) × IsSource texts a.top d × (rs : List Record) × IsPrefix rs (run_of a.active a.steps d).records × (bytes ≡ log_of true rs)))
    × (o.new ≡ appended o.old bytes)

-- a call gives a closing, or tells what cut it short
pub record Closes (o : LogSeen) (r : Result Closing Cut) : Type 0 where
  pub own : IfOk r (λ c. c.status < 6)
  pub is_line : IfOk r (λ c. IsLine (string_bytes c.line))
  pub cause : IsErrOf r LogFailed → Rose o.before o.after
  pub only_cause : r ≢ Err LogFailed → o.after ≡ o.before

-- the words are answered
pub record Answers (l : Limits) (words : List (List ℕ)) (s : ShelfSeen) (o : LogSeen) (r : Result Closing Cut) : Type 0 where
  pub said : IfOk r (λ c. NoFault s.before s.after → Gives (Says l words s.files) o c)
  pub not_read : IfOk r (λ c. s.after ≢ s.before → IsNotRead l words s o c)
  pub shelf : s.after ≢ s.before → Rose s.before s.after × NamesFile l words s.files s.failed
  pub put : (records : List ℕ) × IsPrefixOfRecords l words s.files records × (o.new ≡ appended o.old records)
  pub memory : IsErrOf r Memory → (records : List ℕ) × AreRecords l words s.files records × (o.new ≡ appended o.old records)
  pub all : IfOk r (λ c. (records : List ℕ) × IsAllSaid l words s.files records (string_bytes c.line) × (o.new ≡ appended o.old records))
  pub closed : Closes o r
