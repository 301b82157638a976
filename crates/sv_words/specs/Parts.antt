-- Parts of a list of choices that are still to be read.
use Rattle.std.specs.Prelude.{ℕ, ◌+◌, Bool, not, ◌==◌, List, [], Option, None, Some, length}
use Rattle.std.specs.Borrow.{Bor}
use Rattle.sv_words.specs.Words.{between_commas}

-- the parts of what is left behind a comma
abbrev pub parts_left : Option (Bor (List ℕ)) → List (List ℕ)
parts_left None = []
parts_left (Some rest) = between_commas rest.now

-- what is left behind a comma, as a measure
abbrev pub bytes_left : Option (Bor (List ℕ)) → ℕ
bytes_left None = 0
bytes_left (Some rest) = length rest.now + 1

-- a byte of a part
abbrev pub is_no_comma : ℕ → Bool
is_no_comma b = not (b == 44)
