-- How an activation is found by its name.
use Rattle.std.specs.Prelude.{ℕ, ◌≡◌, List, Option, Some, None, length, map, slice_get}
use Rattle.sv_flat.specs.State.{Activation, Name}

-- the names of activations
abbrev pub names_of : List Activation → List Name
names_of as' = map (λ a. a.name) as'

-- how many activations each process made
abbrev pub lengths_of : List (List ℕ) → List ℕ
lengths_of rows = map (λ r. length r) rows

-- a place of a row
abbrev pub place_in : Option (List ℕ) → ℕ → Option ℕ
place_in None i = None
place_in (Some row) i = slice_get row i

-- the place of the activation with a name
abbrev pub place_of : List (List ℕ) → Name → Option ℕ
place_of rows n = place_in (slice_get rows n.process.0) n.place

-- each activation is found by its name, and nothing else is
pub record IsFound (names : List Name) (rows : List (List ℕ)) : Type 0 where
  pub found : (k : ℕ) (n : Name) → slice_get names k ≡ Some n → place_of rows n ≡ Some k
  pub named : (n : Name) (k : ℕ) → place_of rows n ≡ Some k → slice_get names k ≡ Some n
