-- What the values of the code stand for.
use Rattle.std.specs.Prelude.{List, Option, option_map}
use Rattle.sv_tree.specs.declared.word.Name.{Name}
use Rattle.sv_tree.specs.Classes as classes
use Rattle.sv_tree.specs.Items as items
use Rattle.sv_tree.specs.Types as types
use Rattle.sv_tree.specs.Units as units
use Rattle.sv_tree.specs.StmtView.{implied}
use Rattle.sv_tree.specs.UnitView as view
use Rattle.sv_parse.specs.Outcome.{seen}
use Rattle.sv_parse_unit.specs.declared.typed.TypedName.{TypedName}
use Rattle.sv_parse_unit.specs.declared.routines.FunctionName.{FunctionName}
use Rattle.sv_parse_unit.specs.declared.typedefs.TypeName.{TypeName}
use Rattle.sv_parse_unit.specs.declared.typedefs.TypeName.TheVariants as type_names
use Rattle.sv_parse_unit.specs.declared.elements.ElementHead.{ElementHead}

-- a name, with its type
abbrev pub typed_name : TypedName → types.ImpliedType × Name
typed_name t = (implied t.of, t.name)

-- a name of a type, among items
abbrev pub typedef_item : TypeName → items.Item
typedef_item (type_names.Defined t) = items.Typedef (view.typedef t.value)
typedef_item (type_names.Announced n) = items.Announce n

-- the same in a class
abbrev pub typedef_class_item : TypeName → classes.ClassItem
typedef_class_item (type_names.Defined t) = classes.Typedef (view.typedef t.value)
typedef_class_item (type_names.Announced n) = classes.Announce n

-- what a function gives, and its name
abbrev pub called : FunctionName → units.Returns × Name
called c = (view.returns c.returns, c.name)

-- the parameters and the ports of a design element
abbrev pub element_head : ElementHead → Option (List units.Param) × List units.Port
element_head h = (option_map (seen view.param) h.params, seen view.port h.ports)
