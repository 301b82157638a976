-- A class of the flat design, in steps (IEEE 1800-2017, 8.5, 8.13 and 8.20).
use Rattle.std.specs.Prelude.{List, [], Option, None, Some, replicate, if◌then◌else◌}
use Rattle.sv_value.specs.declared.number.RoutineId.{RoutineId}
use Rattle.sv_value.specs.declared.place.Place.{Place}
use Rattle.sv_flat.specs.declared.object.Declared.{Declared}
use Rattle.sv_names.specs.declared.checked.Checked.{Checked}
use Rattle.sv_names.specs.declared.checked.Checked.TheVariants.{Good}
use Rattle.sv_names.specs.declared.named.Callee.{Callee}
use Rattle.sv_names.specs.declared.named.Named.{Named}
use Rattle.sv_names.specs.declared.named.Named.TheVariants.{Property}
use Rattle.sv_names.specs.declared.ty.Ty.{Ty}
use Rattle.sv_names.specs.Named.{Around}
use Rattle.sv_names.specs.Types.{data_of, size_of_type}

-- the variables of an object for a name of a type
abbrev pub variables_of : Around → Place → Ty → List Declared
variables_of ar at t = replicate (size_of_type t) (record { at = at; ty = data_of ar.numbers t })

-- those of what a name stands for, where it is a property
abbrev pub property_variables : Around → Checked Named → List Declared
property_variables ar (Good (Property c g n t)) = variables_of ar n.at t
property_variables ar v = []

-- the number of a method; none of a pure one
abbrev pub number_of : Around → Option Callee → Option RoutineId
number_of ar (Some c) = if c.is_pure then None else Some (ar.numbers.subroutine c.path)
number_of ar None = None
