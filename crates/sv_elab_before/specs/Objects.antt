-- The objects of the arguments and of the result of a static subroutine, in steps (IEEE 1800-2017, 13.3, 13.4 and 13.4.1).
use Rattle.std.specs.Prelude.{List, [], ◌∷◌, ◌++◌, Option, Some, None, false}
use Rattle.sv_value.specs.declared.place.Place.{Place}
use Rattle.sv_flat.specs.declared.object.Object.{Object}
use Rattle.sv_flat.specs.declared.object.ObjectKind.{ObjectKind}
use Rattle.sv_flat.specs.declared.object.ObjectKind.TheVariants as object_kind
use Rattle.sv_tree.specs.declared.word.Direction.TheVariants as direction
use Rattle.sv_tree.specs.declared.word.Name.{Name}
use Rattle.sv_tree.specs.Types as types
use Rattle.sv_tree.specs.Units.{Argument, Head}
use Rattle.sv_names.specs.declared.checked.Checked.{Checked}
use Rattle.sv_names.specs.declared.checked.Checked.TheVariants.{Good}
use Rattle.sv_names.specs.declared.named.Named.{Named}
use Rattle.sv_names.specs.declared.named.Named.TheVariants.{Variable, Itself}
use Rattle.sv_names.specs.declared.named.ResultVariable.{ResultVariable}
use Rattle.sv_names.specs.declared.named.ResultVariable.TheVariants as result_variable
use Rattle.sv_names.specs.declared.scope.Scope.{Scope}
use Rattle.sv_names.specs.Code.{object_at}
use Rattle.sv_names.specs.Entries.{taken, taken_from}
use Rattle.sv_names.specs.Named.{Around, in_known}
use Rattle.sv_names.specs.Subroutines.{argument_objects, result_objects}

-- ---- arguments

-- the object of what a name stands for, where it is a static variable
abbrev pub object_named : Around → ObjectKind → Place → Named → List Object
object_named ar kind at (Variable p t) = object_at ar kind false false false at p t None ∷ []
object_named ar kind at n = []

-- the same of an argument by what is known
abbrev pub object_known : Around → Place → Option (Checked Named) → List Object
object_known ar at (Some (Good n)) = object_named ar object_kind.Variable at n
object_known ar at c = []

-- the object of an argument by its name
abbrev pub object_called : Around → Scope → Name → List Object
object_called ar s n = object_known ar n.at (in_known 0 0 n.text s.known)

-- those of arguments in order
abbrev pub objects_of : Around → Scope → List Argument → List Object
objects_of ar s as' = argument_objects ar s (taken_from direction.Input types.Unwritten as')

-- ---- results

-- the result variable, where a declaration is the function itself
abbrev pub result_known : Checked Named → Option ResultVariable
result_known (Good (Itself c v)) = Some v
result_known c = None

-- a static result variable
abbrev pub static_result : Option ResultVariable → Option Named
static_result (Some (result_variable.Object p t)) = Some (Variable p t)
static_result v = None

-- what stands for a static variable
abbrev pub if_static : Option Named → Option Named
if_static (Some (Variable p t)) = Some (Variable p t)
if_static n = None

-- the object of the result
abbrev pub result_named : Around → Place → Option Named → List Object
result_named ar at None = []
result_named ar at (Some n) = object_named ar object_kind.Result at n

-- ---- both

-- those of the arguments, and that of the result
abbrev pub own_objects : Around → Scope → Head → List Object
own_objects ar s h = argument_objects ar s (taken h) ++ result_objects ar s h.name
