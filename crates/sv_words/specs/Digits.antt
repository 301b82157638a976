-- Numbers as decimal digits.
use Rattle.std.specs.Prelude.{ℕ, ◌+◌, ◌*◌, ◌-◌, Bool, ◌&&◌, List, [], ◌∷◌, nat_le, nat_lt, length}
use Rattle.std.specs.List.{list_all}

-- a decimal digit
abbrev pub is_digit : ℕ → Bool
is_digit b = nat_le 48 b && nat_le b 57

-- 1 to so many digits
abbrev pub is_number : ℕ → List ℕ → Bool
is_number most digits = nat_lt 0 (length digits) && nat_le (length digits) most && list_all is_digit digits

-- the number that digits stand for, behind those that stand for n
abbrev pub number_behind : ℕ → List ℕ → ℕ
number_behind n [] = n
number_behind n (d ∷ ds) = number_behind (n * 10 + (d - 48)) ds

-- the number that digits stand for
abbrev pub number_of : List ℕ → ℕ
number_of digits = number_behind 0 digits
