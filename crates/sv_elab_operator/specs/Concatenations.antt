-- Concatenations, from the right (IEEE 1800-2017, 11.4.12).
use Rattle.std.specs.Prelude.{ℕ, ◌+◌, ◌*◌, ◌&&◌, ◌||◌, true, false, List, [], ◌∷◌, if◌then◌else◌}
use Rattle.sv_flat.specs.Expr as flat
use Rattle.sv_value.specs.declared.place.Place.{Place}
use Rattle.sv_names.specs.declared.checked.Checked.{Checked}
use Rattle.sv_names.specs.Checked.{broken_at}
use Rattle.sv_names.specs.declared.typed.Typed.{Typed}
use Rattle.sv_names.specs.declared.ty.Ty.{Ty}
use Rattle.sv_names.specs.declared.ty.Ty.TheVariants.{Text}
use Rattle.sv_names.specs.Types.{is_text, is_four_state, width_of_type, plain_vector}
use Rattle.sv_names.specs.Named.{nowhere_yet}
use Rattle.sv_names.specs.Hoisted.{pure, paired}
use Rattle.sv_names.specs.Values.{value_typed, not_too_wide}
use Rattle.sv_names.specs.Operators.{Placed, widths_of, unsigned_part, join_all}

-- the type of two parts
abbrev pub type_of_two : Ty → Ty → Ty
type_of_two a r = if is_text a then Text else plain_vector (width_of_type a + width_of_type r) false (is_four_state a || is_four_state r)

-- a part, and what stands to the right of it
abbrev pub join_two : Typed → Typed → Typed
join_two a r = value_typed (type_of_two a.ty r.ty) a.at (a.is_constant && r.is_constant) (paired flat.Join a.code r.code)

-- parts, and what stands to the right of them
abbrev pub joined_before : List Placed → Typed → Typed
joined_before [] r = r
joined_before (p ∷ ps) r = join_two p.1 (joined_before ps r)

-- parts before a last one, which may be alone
abbrev pub row_joined : List Placed → Typed → Typed
row_joined [] r = unsigned_part r
row_joined (p ∷ ps) r = joined_before (p ∷ ps) r

-- one part, or several; of none a value that is never asked for
abbrev pub whole_of : List Placed → Typed
whole_of [] = value_typed Text nowhere_yet true (pure (flat.Text []))
whole_of (p ∷ ps) = join_all p ps

-- E13, E15: whether parts are one concatenation
abbrev pub parts_stand : Place → List Placed → Checked (Unit {0})
parts_stand at [] = broken_at 15 at
parts_stand at (p ∷ ps) = not_too_wide at (widths_of (p ∷ ps))

-- the type of a replication
abbrev pub repeated_type : ℕ → Ty → Ty
repeated_type n t = if is_text t then Text else plain_vector (n * width_of_type t) false (is_four_state t)
