-- The initializers of properties, in steps (IEEE 1800-2017, 8.7).
use Rattle.std.specs.Prelude.{List, [], ◌∷◌, Option, Some, None, if◌then◌else◌}
use Rattle.sv_value.specs.declared.place.Place.{Place}
use Rattle.sv_flat.specs.declared.stmt.Form.{Form}
use Rattle.sv_tree.specs.declared.word.Name.{Name}
use Rattle.sv_tree.specs.Stmt as tree_stmt
use Rattle.sv_tree.specs.Classes as tree_class
use Rattle.sv_names.specs.declared.around.ClassInfo.{ClassInfo}
use Rattle.sv_names.specs.declared.checked.Checked.{Checked}
use Rattle.sv_names.specs.declared.checked.Checked.TheVariants.{Good}
use Rattle.sv_names.specs.declared.hoisted.Hoisted.{Hoisted}
use Rattle.sv_names.specs.declared.named.Named.{Named}
use Rattle.sv_names.specs.Assignments.{assignment}
use Rattle.sv_names.specs.Checked.{◌▷◌, broken_at, given}
use Rattle.sv_names.specs.Code.{Code, empty, single}
use Rattle.sv_names.specs.Named.{Around, raised}
use Rattle.sv_names.specs.Subroutines.{property_known, property_spot, properties_code}
use Rattle.sv_names.specs.declared.ty.Ty.{Ty}
use Rattle.sv_names.specs.Targets.{Spot}
use Rattle.sv_names.specs.Things.{this_typed, field_typed}
use Rattle.sv_names.specs.Types.{Path}

-- what a name of a class stands for
abbrev pub known_or : Name → Option (Checked Named) → Checked Named
known_or n None = broken_at 6 n.at
known_or n (Some c) = c

-- a property as a target
abbrev pub spot_of : Around → ClassInfo → Name → Checked (List Spot)
spot_of s k n = property_known k n ▷ property_spot s n.at n

-- its initializer, in variables of this activation
abbrev pub initialized_once : Around → ClassInfo → Name → tree_stmt.Init → Checked (Hoisted Form)
initialized_once s k n e = assignment s (spot_of s k n) None e

-- the same in variables of its own, where it has hidden ones
abbrev pub initialized : Around → ClassInfo → Name → tree_stmt.Init → Checked (Hoisted Form)
initialized i k n e = raised i (λ s. initialized_once s k n e)

-- those of an item
abbrev pub item_code : Around → ClassInfo → tree_class.ClassItem → Checked Code
item_code i k (tree_class.Property p) = if p.qualifiers.is_static then Good empty else properties_code i k p.decl.names
item_code i k x = Good empty

-- the statement of an initializer
abbrev pub value_code : Around → ClassInfo → Name → tree_stmt.Init → Checked Code
value_code i k n e = given (single n.at) (initialized i k n e)

-- a property of the object at hand, as a target
abbrev pub field_spot : Around → Place → Path → Name → Ty → Checked (List Spot)
field_spot i at k m t = given (λ o. (at, field_typed i at k m t o) ∷ []) (this_typed i at)

-- the same, where one is written
abbrev pub init_code : Around → ClassInfo → Name → Option tree_stmt.Init → Checked Code
init_code i k n None = Good empty
init_code i k n (Some e) = value_code i k n e
