-- The objects of static properties, in steps (IEEE 1800-2017, 8.9).
use Rattle.std.specs.Prelude.{false, true, List, [], ◌∷◌, Option, Some, None}
use Rattle.sv_value.specs.declared.place.Place.{Place}
use Rattle.sv_flat.specs.declared.object.Object.{Object}
use Rattle.sv_flat.specs.declared.object.ObjectKind.TheVariants as object_kind
use Rattle.sv_tree.specs.Stmt.{Declarator, Init}
use Rattle.sv_tree.specs.Classes as tree_class
use Rattle.sv_names.specs.declared.around.ClassInfo.{ClassInfo}
use Rattle.sv_names.specs.declared.checked.Checked.{Checked}
use Rattle.sv_names.specs.declared.checked.Checked.TheVariants.{Good, Broken}
use Rattle.sv_names.specs.declared.named.Named.{Named}
use Rattle.sv_names.specs.declared.named.Named.TheVariants.{StaticProperty}
use Rattle.sv_names.specs.declared.ty.Ty.{Ty}
use Rattle.sv_names.specs.Assignments.{initial_of}
use Rattle.sv_names.specs.Checked.{each, given}
use Rattle.sv_names.specs.Classes.{joined, static_object, static_objects}
use Rattle.sv_names.specs.Code.{object_at}
use Rattle.sv_names.specs.Named.{Around}
use Rattle.sv_names.specs.Types.{Path}

-- the object of a static property of this path and type
abbrev pub static_property : Around → Place → Path → Ty → Option Init → Checked (List Object)
static_property ar at p t e =
    given (λ i. object_at ar object_kind.Variable false true false at p t i ∷ []) (initial_of ar at (Good t) e)

-- the object of what a name stands for, where it is a static property
abbrev pub static_named : Around → Place → Named → Option Init → Checked (List Object)
static_named ar at (StaticProperty k g p t) e = static_property ar at p t e
static_named ar at n e = Good []

-- the rule that the declaration breaks, beside what its initializer breaks
abbrev pub static_known : Around → Place → Option (Checked Named) → Option Init → Checked (List Object)
static_known ar at None e = Good []
static_known ar at (Some (Broken f)) e = given (λ i. []) (initial_of ar at (Broken f) e)
static_known ar at (Some (Good n)) e = static_named ar at n e

-- those of one declaration
abbrev pub static_names : Around → ClassInfo → List Declarator → Checked (List Object)
static_names ar k xs = joined (each (static_object ar k) xs)

-- those of all items
abbrev pub all_statics : Around → ClassInfo → List tree_class.ClassItem → Checked (List Object)
all_statics ar k is = joined (each (static_objects ar k) is)
