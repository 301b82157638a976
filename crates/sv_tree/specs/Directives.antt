-- The directives that are permitted (IEEE 1800-2017, 22.7 and 22.8).
use Rattle.std.specs.Prelude.{ℕ, ◌+◌, Bool, ◌||◌, List, length, drop, Option, Some, None, if◌then◌else◌, ◌==◌, codes}
use Rattle.std.specs.List.{starts_with, prefix_len}
use Rattle.std.specs.Bool.{nat_eq}
use Prim.Native.Char.{code}
use Rattle.sv_tree.specs.Tokens.{is_name_part}

infixl 10 ◌>>=◌
abbrev pub ◌>>=◌ : {A B : Type 0} → Option A → (A → Option B) → Option B
(Some x) >>= f = f x
None >>= f = None

-- blanks and tabs
abbrev pub is_space : ℕ → Bool
is_space c = c == code " " || c == code "\t"

-- each of these answers what is left of the text after it

-- a word that the text begins with
unfoldable pub after_word : List ℕ → List ℕ → Option (List ℕ)
after_word word s = if starts_with nat_eq s word then Some (drop (length word) s) else None

-- any number of blanks and tabs
abbrev pub after_spaces : List ℕ → List ℕ
after_spaces s = drop (prefix_len is_space s) s

-- at least one blank or tab
unfoldable pub after_some_spaces : List ℕ → Option (List ℕ)
after_some_spaces s = if prefix_len is_space s == 0 then None else Some (after_spaces s)

-- no letter, digit, _ or $ follows
unfoldable pub after_end_of_word : List ℕ → Option (List ℕ)
after_end_of_word s = if prefix_len is_name_part s == 0 then Some s else None

-- the first of two that can be read
abbrev pub either : {A : Type 0} → Option A → Option A → Option A
either (Some x) o = Some x
either None o = o

-- a word that stands for a power of ten
unfoldable pub power_at : List ℕ → ℕ → List ℕ → Option (ℕ × List ℕ)
power_at word n s = after_word word s >>= λ rest. Some (n, rest)

-- 1, 10 or 100, as a power of ten
unfoldable pub magnitude_at : List ℕ → Option (ℕ × List ℕ)
magnitude_at s = either (power_at (codes "100") 2 s) (either (power_at (codes "10") 1 s) (power_at (codes "1") 0 s))

-- in femtoseconds
unfoldable pub unit_at : List ℕ → Option (ℕ × List ℕ)
unit_at s =
    either (power_at (codes "s") 15 s) (either (power_at (codes "ms") 12 s) (either (power_at (codes "us") 9 s)
    (either (power_at (codes "ns") 6 s) (either (power_at (codes "ps") 3 s) (power_at (codes "fs") 0 s)))))

-- a number and a unit; blanks and tabs may stand between them
unfoldable pub scale_at : List ℕ → Option (ℕ × List ℕ)
scale_at s = do
  m ← magnitude_at s
  u ← unit_at (after_spaces m.1)
  Some (m.0 + u.0, u.1)

-- the two powers of ten, and what is left; blanks and tabs may stand around the /
unfoldable pub timescale_at : List ℕ → Option ((ℕ × ℕ) × List ℕ)
timescale_at s = do
  a ← after_word (codes "`timescale") s
  b ← after_some_spaces a
  unit ← scale_at b
  c ← after_word (codes "/") (after_spaces unit.1)
  precision ← scale_at (after_spaces c)
  rest ← after_end_of_word precision.1
  Some ((unit.0, precision.0), rest)

-- "none" | "wire"
abbrev pub none_or_wire : List ℕ → Option (List ℕ)
none_or_wire s = either (after_word (codes "none") s) (after_word (codes "wire") s)

-- "`default_nettype" ("none" | "wire")
unfoldable pub nettype_at : List ℕ → Option (List ℕ)
nettype_at s = do
  a ← after_word (codes "`default_nettype") s
  b ← after_some_spaces a
  c ← none_or_wire b
  after_end_of_word c
