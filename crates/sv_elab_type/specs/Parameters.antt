-- The values of parameters, in their types (IEEE 1800-2017, 6.20.2).
use Rattle.std.specs.Prelude.{Bool, true, Option, Some, None}
use Rattle.sv_value.specs.declared.place.Place.{Place}
use Rattle.sv_tree.specs.Types.{ImpliedType, Range}
use Rattle.sv_names.specs.declared.checked.Checked.{Checked}
use Rattle.sv_names.specs.declared.ty.Ty.{Ty}
use Rattle.sv_names.specs.declared.typed.Typed.{Typed}
use Rattle.sv_names.specs.Checked.{◌▷◌, given}
use Rattle.sv_names.specs.Declarations.{parameter_type, with_sign, vector_type}
use Rattle.sv_names.specs.Named.{Around}
use Rattle.sv_names.specs.Types.{Path}
use Rattle.sv_names.specs.Values.{value_typed, exactly}

-- E11, E16, E17, E42: a constant of exactly a type
abbrev pub of_type : Around → Place → Typed → Ty → Checked Typed
of_type ar at t to = given (λ e. value_typed to at true e) (exactly ar to at t)

-- a constant of the type of its parameter
abbrev pub valued : Around → Path → Place → ImpliedType → Typed → Checked Typed
valued ar p at i t = parameter_type ar p at i t.ty ▷ of_type ar at t

-- the type of a parameter whose sign or range alone is written
abbrev pub vector_or_sign : Around → Place → Bool → Option Range → Ty → Checked Ty
vector_or_sign ar at s None t = with_sign at s t
vector_or_sign ar at s (Some r) t = vector_type ar s true (Some r)
