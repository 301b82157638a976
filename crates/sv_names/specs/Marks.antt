-- Marks of paths, by which their positions are found (own).
use Rattle.std.specs.Prelude.{◌≡◌, ℕ, ◌+◌, ◌*◌, ◌%◌, ◌^◌, List, [], ◌∷◌, map}
use Rattle.std.specs.Bool.{nat_eq}
use Rattle.std.specs.Ordering.{nat_cmp}
use Rattle.std.specs.BTreeMap.{BTreeMap, get}
use Rattle.sv_names.specs.Types.{Path}
use Rattle.sv_names.specs.Index.{first_at}

-- a mark with a byte behind it
abbrev pub mixed : ℕ → ℕ → ℕ
mixed m b = (m * 1099511628211 % 2 ^ 64 + b) % 2 ^ 64

-- a mark with a name behind it
abbrev pub with_name : ℕ → List ℕ → ℕ
with_name m [] = m
with_name m (b ∷ bs) = with_name (mixed m b) bs

-- a mark with a path behind it, of which each name ends with a byte 0
abbrev pub with_path : ℕ → Path → ℕ
with_path m [] = m
with_path m (x ∷ xs) = with_path (mixed (with_name m x) 0) xs

-- the marks of paths
abbrev pub marks_of : List Path → List ℕ
marks_of ps = map (λ p. with_path 0 p) ps

-- an index finds each mark at its first position
abbrev pub Marks : BTreeMap ℕ ℕ → List ℕ → Type 0
Marks index ms = (m : ℕ) → get nat_cmp index m ≡ first_at nat_eq m ms
