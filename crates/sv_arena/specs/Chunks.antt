-- A list in chunks of one size.
use Rattle.std.specs.Prelude.{ℕ, ◌≡◌, ◌≤◌, Bool, false, nat_lt, List, [], ◌∷◌, ◌++◌, length}

-- what chunks hold
abbrev pub entries_of : {A : Type 0} → List (List A) → List A
entries_of [] = []
entries_of (c ∷ cs) = c ++ entries_of cs

-- each chunk but the last one holds as much as it may
abbrev pub IsChunked : {A : Type 0} → (size : ℕ) → List (List A) → Type 0
IsChunked n [] = Unit {0}
IsChunked n (c ∷ []) = length c ≤ n
IsChunked n (c ∷ d ∷ cs) = (length c ≡ n) × IsChunked n (d ∷ cs)

-- whether the last chunk has room for an entry
abbrev pub has_room : {A : Type 0} → (size : ℕ) → List (List A) → Bool
has_room n [] = false
has_room n (c ∷ []) = nat_lt (length c) n
has_room n (c ∷ d ∷ cs) = has_room n (d ∷ cs)
