-- What a call leaves in the log, whatever happens outside.
use Rattle.std.specs.Prelude.{ℕ, ◌≡◌, ◌<◌, ◌^◌, ◌++◌, [], List, Option, Some, codes, true, map, String, Vec, string_bytes, ◌⊎◌}
use Rattle.std.specs.Global.{Global}
use Rattle.sv_io.specs.Outside.{appended}
use mathlib.Core.List.{IsPrefix}
use Rattle.sv_flat.specs.Config.{Config, Record}
use Rattle.sv_flat.specs.Directed.{log_of}
use Rattle.sv_words.specs.declared.words.Limits.{Limits}
use Rattle.sv_simulate.specs.Said.{Said, Files, IsTurn, Says, Runs, line, IsPrefixOfLine}
use Rattle.sv_words.specs.Words.{Asked, asked}

-- the words, as texts
abbrev pub texts : Vec (String Global) Global → List (List ℕ)
texts words = map string_bytes words.items

-- no fault came: a count that stands so high may stay where it is
abbrev pub NoFault : (before after : ℕ) → Type 0
NoFault before after = (before < 2 ^ 63) × (after ≡ before)

-- the words ask for files, and it is this one's turn to be fetched
abbrev pub Awaits : Limits → List (List ℕ) → Files → (name : List ℕ) → Type 0
Awaits l words files name = (a : Asked) × (asked l words ≡ Some a) × IsTurn files l.bytes a.files name

-- ---- the log

-- all that is to be said was put, and its status answered
abbrev pub PutsAll : Limits → List (List ℕ) → Files → (old new : Option (List ℕ)) → (status : ℕ) → Type 0
PutsAll l words files old new status =
    (said : Said) × Says l words files said × (new ≡ appended old (said.records ++ said.closing)) × (status ≡ said.status)

-- these bytes begin the records that are to be put
abbrev pub IsPrefixOfRecords : Limits → List (List ℕ) → Files → List ℕ → Type 0
IsPrefixOfRecords l words files records = (records ≡ []) ⊎ ((said : Said) × Says l words files said × IsPrefix records said.records)

-- these bytes are the first records of the run that is asked for, each whole
abbrev pub AreRecords : Limits → List (List ℕ) → Files → List ℕ → Type 0
AreRecords l words files bytes =
    (bytes ≡ []) ⊎ ((c : Config) × Runs l words files c × (rs : List Record) × IsPrefix rs c.records × (bytes ≡ log_of true rs))

-- a prefix of the records was put, and then a prefix of one line
abbrev pub PutsPrefix : Limits → List (List ℕ) → Files → (old new : Option (List ℕ)) → Type 0
PutsPrefix l words files old new =
    (records rest : List ℕ) × IsPrefixOfRecords l words files records × IsPrefixOfLine rest × (new ≡ appended old (records ++ rest))

-- all the records that are to be put, and the closing line
pub data IsAllSaid (l : Limits) (words : List (List ℕ)) (files : Files) : (records closing : List ℕ) → Type 0 where
  whole : {said : Said} → Says l words files said → IsAllSaid l words files said.records said.closing
  not_read : (name : List ℕ) → Awaits l words files name → IsAllSaid l words files [] (line (name ++ codes ": not read"))

-- What a log has that failed: of the records those up to one that was not put whole, or all of them and a prefix of the closing line;
-- where memory ran out before, the first records, each whole, and a prefix of the line that says so.
abbrev pub IsCut : Limits → List (List ℕ) → Files → (old new : Option (List ℕ)) → Type 0
IsCut l words files old new =
    (records rest : List ℕ) × (new ≡ appended old (records ++ rest))
    × ((IsPrefixOfRecords l words files records × (rest ≡ []))
    ⊎ ((closing : List ℕ) × IsAllSaid l words files records closing × IsPrefix rest closing)
    ⊎ (AreRecords l words files records × IsPrefix rest (line (codes "out of memory"))))

-- What a log has where memory ran out: the first records, each whole, and behind them nothing, or the line that says so.
abbrev pub IsOutOfMemory : Limits → List (List ℕ) → Files → (old new : Option (List ℕ)) → Type 0
IsOutOfMemory l words files old new =
    (records rest : List ℕ) × AreRecords l words files records × ((rest ≡ []) ⊎ (rest ≡ line (codes "out of memory")))
    × (new ≡ appended old (records ++ rest))

-- ---- the shelf

-- the file for which the shelf failed is one that the words ask for, whose turn it was
abbrev pub NamesFile : Limits → List (List ℕ) → Files → (failed : Option (List ℕ)) → Type 0
NamesFile l words files failed = (name : List ℕ) × Awaits l words files name × (failed ≡ Some name)

-- the line was put that says that this file could not be read
abbrev pub PutsNotRead : Limits → List (List ℕ) → Files → (failed : Option (List ℕ)) → (old new : Option (List ℕ)) → Type 0
PutsNotRead l words files failed old new =
    (name : List ℕ) × Awaits l words files name × (failed ≡ Some name) × (new ≡ appended old (line (name ++ codes ": not read")))
