-- Time literals in ticks (IEEE 1800-2017, 5.8).
use Rattle.std.specs.Prelude.{ℕ, ◌*◌, ◌/◌, ◌^◌, not, Option, Some, None, if◌then◌else◌, nat_le, ◌==◌}

-- so many ticks, where they are fewer than 2^63
abbrev pub few : ℕ → Option ℕ
few n = if nat_le (2 ^ 63) n then None else Some n

-- a time in ticks of a power of ten of its unit, where it is a whole number of them
abbrev pub whole_ticks : (time precision : ℕ) → Option ℕ
whole_ticks t p = if not ((t / 10 ^ p) * 10 ^ p == t) then None else few (t / 10 ^ p)
