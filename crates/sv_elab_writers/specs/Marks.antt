-- Writes by marks of their objects (own).
use Rattle.std.specs.Prelude.{◌≡◌, ℕ, List, [], map, filter, Option, Some, None}
use Rattle.std.specs.Bool.{nat_eq}
use Rattle.std.specs.Ordering.{nat_cmp}
use Rattle.std.specs.BTreeMap.{BTreeMap, get}
use Rattle.sv_names.specs.Marks.{with_path}
use Rattle.sv_names.specs.Writers as writers
use Rattle.sv_elab_writers.specs.declared.writes.Write.{Write}
use Rattle.sv_elab_writers.specs.Views.{write_in}

-- the writes that a mark has, if it has any
abbrev pub writes_in : Option (List Write) → List Write
writes_in None = []
writes_in (Some ws) = ws

-- the writes of objects with a mark
abbrev pub with_mark : ℕ → List writers.Write → List writers.Write
with_mark m ws = filter (λ w. nat_eq (with_path 0 w.object) m) ws

-- writes are kept at the marks of their objects
abbrev pub HasWrites : BTreeMap ℕ (List Write) → List writers.Write → Type 0
HasWrites marked ws = (m : ℕ) → map write_in (writes_in (get nat_cmp marked m)) ≡ with_mark m ws
