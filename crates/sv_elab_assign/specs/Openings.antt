-- The initializers of static variables, in steps (IEEE 1800-2017, 6.21 and 10.5).
use Rattle.std.specs.Prelude.{ℕ, List, Option, None, if◌then◌else◌}
use Rattle.sv_value.specs.declared.place.Place.{Place}
use Rattle.sv_flat.specs.declared.object.Initial.{Initial}
use Rattle.sv_names.specs.declared.argument.Arg.{Arg}
use Rattle.sv_names.specs.declared.checked.Checked.{Checked}
use Rattle.sv_names.specs.declared.ty.Ty.{Ty}
use Rattle.sv_names.specs.declared.typed.Typed.{Typed}
use Rattle.sv_names.specs.Assignments.{initial_value, sync_initial, bound_given, copy_given, at_name}
use Rattle.sv_names.specs.Checked.{◌▷◌, given, broken_at, ◌where_also◌, only}
use Rattle.sv_names.specs.Named.{Around}
use Rattle.sv_names.specs.Types.{is_fixed}
use Rattle.sv_names.specs.Values.{assigned}
use Rattle.sv_elab_assign.specs.declared.arrays.Source as arrays
use Rattle.sv_elab_assign.specs.Wholes.{array_of}

-- a broken rule, beside what is not made
abbrev pub not_made : {A : Type 0} → ℕ → Place → Checked A → Checked Initial
not_made n at x = broken_at n at where_also only x

-- E16, E17: a value that fits its variable
abbrev pub value_fitting : Around → Ty → Place → Checked Typed → Checked Initial
value_fitting ar t pv x = given (initial_value t) (x ▷ assigned ar t pv)

-- E42: the same; no fixed array has an initializer
abbrev pub value_opening : Around → Place → Ty → Place → Checked Typed → Checked Initial
value_opening ar at t pv x = if is_fixed t then not_made 42 at x else value_fitting ar t pv x

-- a mailbox or a semaphore of its own
abbrev pub sync_opening : Around → Ty → Place → List Arg → Checked Initial
sync_opening ar t at as' = given (λ e. sync_initial t e.value) (bound_given ar at as')

-- E25: no object is copied
abbrev pub copy_opening : Around → Place → Ty → Place → Checked Typed → Checked Initial
copy_opening ar at t p x = not_made 25 p (x ▷ copy_given ar None p (at_name at t))

-- E25: no array is made
abbrev pub array_opening : Around → Place → Ty → Place → Place → Checked Typed → Option arrays.Source → Checked Initial
array_opening ar at t p q n s = not_made 25 p (array_of ar None p q n s (at_name at t))
