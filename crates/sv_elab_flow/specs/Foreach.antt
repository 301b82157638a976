-- `foreach` over a routine (IEEE 1800-2017, 12.7.3).
use Rattle.std.specs.Prelude.{List, [], ◌∷◌}
use Rattle.sv_value.specs.declared.place.Place.{Place}
use Rattle.sv_value.specs.declared.number.RoutineId.{RoutineId}
use Rattle.sv_flat.specs.declared.stmt.Form.{Form}
use Rattle.sv_flat.specs.declared.stmt.Form.TheVariants as form
use Rattle.sv_flat.specs.declared.stmt.Stmt.{Stmt}
use Rattle.sv_names.specs.declared.hoisted.Hoisted.{Hoisted}
use Rattle.sv_names.specs.declared.ty.Ty.{Ty}
use Rattle.sv_names.specs.declared.ty.Ty.TheVariants.{Fixed}
use Rattle.sv_names.specs.declared.typed.Typed.{Typed}
use Rattle.sv_names.specs.Code.{statement}
use Rattle.sv_names.specs.Hoisted.{pure, mapped}
use Rattle.sv_names.specs.Named.{Around}
use Rattle.sv_names.specs.Selects.{container_of}
use Rattle.sv_names.specs.Types.{data_of, key_of}

-- a walk through a container
abbrev pub container_walk : Around → Typed → RoutineId → Hoisted Form
container_walk ar t r = mapped (λ q. form.Foreach (container_of q) (data_of ar.numbers (key_of t.ty)) r) t.code

-- a walk by the type of the array
abbrev pub walk_by : Around → Place → Typed → RoutineId → Ty → List Stmt
walk_by ar at t r (Fixed b u) = statement at (pure (form.ForeachElement b r)) ∷ []
walk_by ar at t r u = statement at (container_walk ar t r) ∷ []

-- a walk through an array
abbrev pub walk : Around → Place → Typed → RoutineId → List Stmt
walk ar at t r = walk_by ar at t r t.ty
