-- Files that are fetched one after another.
use Rattle.std.proofs.Common.{ℕ, ◌≡◌, ◌+◌, ◌<◌, suc, List, ◌∷◌, ◌++◌, Some, None, refl, ap, sym, ◌∙◌, arith, length, drop, take, get_or}
use Rattle.std.specs.Prelude.{String, IsSome, map, string_bytes, replicate}
use Rattle.std.specs.Global.{Global}
use Rattle.std.proofs.Math.Seq.{drop-cons}
use Rattle.std.proofs.lemmas.List.{map-append, take-append-drop, length-replicate}
use Rattle.sv_io.specs.Outside.{HasLonger, file_at}
use Rattle.sv_simulate.specs.Said.{Files, Has, IsTurn}
use Rattle.sv_simulate.specs.Source.{bytes_of}

-- the files before one, itself, and those behind it
pub parts_at : (names : List (String Global)) (i : ℕ) (d : String Global) → i < length names
    → map string_bytes names ≡ map string_bytes (take i names) ++ string_bytes (get_or names i d) ∷ map string_bytes (drop (suc i) names)
parts_at names i d h =
    ap (map string_bytes) (sym (take-append-drop i names)) ∙ map-append string_bytes (take i names) (drop i names)
    ∙ ap (λ (rest : List (String Global)). map string_bytes (take i names) ++ map string_bytes rest) (drop-cons names i d h)

-- a text of a file that is too long; a shelf that doesn't tell its files may have any
long_text : (files : Files) (name : List ℕ) (limit : ℕ) → (IsSome files → HasLonger files name limit)
    → (text : List ℕ) × (IsSome files → file_at files name ≡ Some text) × (limit < length text)
long_text None name limit h = (replicate (limit + 1) 0, (λ i. cc), omega (arith, length-replicate {A = ℕ} (limit + 1) 0))
long_text (Some files) name limit h = let k = h refl in (k.0, (λ i. k.1), k.2)

module _ (files : Files) (limit : ℕ) (names : List (String Global)) (i : ℕ) (d : String Global) (within : i < length names)
    (name : List ℕ) (is : name ≡ string_bytes (get_or names i d))
    (texts : List (List ℕ)) (has : Has files (map string_bytes (take i names)) texts) (left : ℕ) (count : bytes_of texts + left ≡ limit) where
  -- it is the turn of the file at a place
  abbrev pub turn_at : IsTurn files limit (map string_bytes names) name
  turn_at =
      record {
        before = map string_bytes (take i names);
        after = map string_bytes (drop (suc i) names);
        parts = parts_at names i d within ∙ ap (λ (n : List ℕ). map string_bytes (take i names) ++ n ∷ map string_bytes (drop (suc i) names)) (sym is);
        fetched = texts;
        has = has;
        short = omega arith;
      }

  pub long_at : (IsSome files → HasLonger files name left)
      → (turn : IsTurn files limit (map string_bytes names) name) × (text : List ℕ) × (IsSome files → file_at files name ≡ Some text)
      × (limit < bytes_of turn.fetched + length text)
  long_at h = let t = long_text files name left h in (turn_at, t.0, t.1, omega (arith, count, t.2))
