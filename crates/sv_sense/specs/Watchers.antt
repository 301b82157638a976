-- Lists of processes by number: the watchers of objects.
use Rattle.std.specs.Prelude.{◌≡◌, ℕ, zero, suc, ◌+◌, ◌≤◌, Bool, true, false, List, [], ◌∷◌, Option, None, Some, length, slice_index_or, nat_lt, ◌==◌}
use Rattle.std.specs.List.{prefix_len}
use Rattle.sv_value.specs.declared.number.ObjId.{ObjId}
use Rattle.sv_value.specs.declared.number.ProcessId.{ProcessId}
use Rattle.sv_flat.specs.Effects.{is_in}
use Rattle.sv_sense.specs.Objects.{is_among}

-- processes from a number on, each before those with greater numbers
abbrev pub Ascends : ℕ → List ProcessId → Type 0
Ascends n [] = Unit {0}
Ascends n (p ∷ ps) = (n ≤ p.0) × Ascends (p.0 + 1) ps

-- a process is the one at a place, if there is one
abbrev pub is_this : ProcessId → Option ProcessId → Bool
is_this p None = false
is_this p (Some q) = p.0 == q.0

-- how many stand before a process
abbrev pub place_of : ProcessId → List ProcessId → ℕ
place_of p ps = prefix_len (λ q. nat_lt q.0 p.0) ps

-- so many processes from a number on
abbrev pub from_on : ℕ → ℕ → List ProcessId
from_on n zero = []
from_on n (suc c) = record { 0 = n } ∷ from_on (n + 1) c

-- no list has lost a process
pub record Grows (before after : List (List ProcessId)) : Type 0 where
  pub count : length after ≡ length before
  pub kept : (n : ℕ) (d : List ProcessId) (p : ProcessId) → is_in p (slice_index_or before n d) ≡ true → is_in p (slice_index_or after n d) ≡ true

-- a process is among the watchers of each of these objects
pub record Registered (p : ProcessId) (os : List ObjId) (lists : List (List ProcessId)) (all : List ProcessId) : Type 0 where
  pub each : (o : ObjId) → is_among o os ≡ true → is_in p (slice_index_or lists o.0 all) ≡ true

-- the same of those objects that are not left
pub record RegisteredBut (left : List ObjId) (p : ProcessId) (os : List ObjId) (lists : List (List ProcessId)) (all : List ProcessId) : Type 0 where
  pub each : (o : ObjId) → is_among o os ≡ true → is_among o left ≡ false → is_in p (slice_index_or lists o.0 all) ≡ true
