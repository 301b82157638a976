-- What the descriptions of the program stand for: the same descriptions without pointers.
use Rattle.std.specs.Prelude.{map, option_map}
use Rattle.sv_tree.specs.declared.unit.ParamItem.{ParamItem}
use Rattle.sv_tree.specs.declared.unit.Param.{Param}
use Rattle.sv_tree.specs.declared.unit.Port.{Port}
use Rattle.sv_tree.specs.declared.unit.Connection.{Connection}
use Rattle.sv_tree.specs.declared.unit.Connection.TheVariants as connections
use Rattle.sv_tree.specs.declared.unit.Instance.{Instance}
use Rattle.sv_tree.specs.declared.unit.Instances.{Instances}
use Rattle.sv_tree.specs.declared.unit.Argument.{Argument}
use Rattle.sv_tree.specs.declared.unit.Returns.{Returns}
use Rattle.sv_tree.specs.declared.unit.Returns.TheVariants as results
use Rattle.sv_tree.specs.declared.unit.Head.{Head}
use Rattle.sv_tree.specs.declared.unit.Routine.{Routine}
use Rattle.sv_tree.specs.declared.unit.Typedef.{Typedef}
use Rattle.sv_tree.specs.declared.class.Property.{Property}
use Rattle.sv_tree.specs.declared.class.Method.{Method}
use Rattle.sv_tree.specs.declared.class.PureMethod.{PureMethod}
use Rattle.sv_tree.specs.declared.class.ClassItem.{ClassItem}
use Rattle.sv_tree.specs.declared.class.ClassItem.TheVariants as class_items
use Rattle.sv_tree.specs.declared.class.Class.{Class}
use Rattle.sv_tree.specs.declared.clocking.Skew.{Skew}
use Rattle.sv_tree.specs.declared.clocking.Skew.TheVariants as skews
use Rattle.sv_tree.specs.declared.clocking.Sided.{Sided}
use Rattle.sv_tree.specs.declared.clocking.ClockingItem.{ClockingItem}
use Rattle.sv_tree.specs.declared.clocking.ClockingItem.TheVariants as clocking_items
use Rattle.sv_tree.specs.declared.clocking.ClockingBlock.{ClockingBlock}
use Rattle.sv_tree.specs.declared.unit.NetItem.{NetItem}
use Rattle.sv_tree.specs.declared.unit.NetDecl.{NetDecl}
use Rattle.sv_tree.specs.declared.unit.AssignItem.{AssignItem}
use Rattle.sv_tree.specs.declared.unit.Procedure.{Procedure}
use Rattle.sv_tree.specs.declared.unit.Item.{Item}
use Rattle.sv_tree.specs.declared.unit.Item.TheVariants as items
use Rattle.sv_tree.specs.declared.unit.DesignElement.{DesignElement}
use Rattle.sv_tree.specs.declared.unit.Description.{Description}
use Rattle.sv_tree.specs.declared.unit.Description.TheVariants as descriptions
use Rattle.sv_tree.specs.Units as tree
use Rattle.sv_tree.specs.Classes as class_tree
use Rattle.sv_tree.specs.Items as item_tree
use Rattle.sv_tree.specs.Descriptions as description_tree
use Rattle.sv_tree.specs.View.{expr}
use Rattle.sv_tree.specs.StmtView.{lval, range, type, implied, decl, stmt, stmt_list}

abbrev pub param_item : ParamItem → tree.ParamItem
param_item p = record { name = p.name; value = expr p.value }

abbrev pub param : Param → tree.Param
param p = record { word = p.word; of = implied p.of; names = map param_item p.names.items }

abbrev pub port : Port → tree.Port
port p = record { direction = p.direction; is_net = p.is_net; of = implied p.of; name = p.name }

abbrev pub connection : Connection → tree.Connection
connection (connections.Value e) = tree.Connection.Value (expr e)
connection (connections.Named at n) = tree.Named at n
connection (connections.Given at n e) = tree.Given at n (option_map expr e)
connection (connections.All at) = tree.All at

abbrev pub instance : Instance → tree.Instance
instance i = record { name = i.name; connections = map connection i.connections.items }

abbrev pub instances : Instances → tree.Instances
instances i = record { of = i.of; params = map connection i.params.items; list = map instance i.list.items }

abbrev pub argument : Argument → tree.Argument
argument a = record { direction = a.direction; of = implied a.of; name = a.name; default = option_map expr a.default }

abbrev pub returns : Returns → tree.Returns
returns results.Task = tree.Task
returns results.Void = tree.Void
returns (results.Value t) = tree.Returns.Value (implied t)

abbrev pub head : Head → tree.Head
head h = record { at = h.at; life = h.life; returns = returns h.returns; name = h.name; arguments = map argument h.arguments.items }

abbrev pub routine : Routine → tree.Routine
routine r = record { head = head r.head; decls = map decl r.decls.items; stmts = stmt_list r.stmts.items; label = r.label }

abbrev pub typedef : Typedef → tree.Typedef
typedef t = record { of = type t.of; name = t.name }

abbrev pub property : Property → tree.Property
property p = record { qualifiers = p.qualifiers; decl = decl p.decl }

abbrev pub method : Method → tree.Method
method m = record { qualifiers = m.qualifiers; routine = routine m.routine }

abbrev pub pure_method : PureMethod → tree.PureMethod
pure_method m = record { at = m.at; head = head m.head }

abbrev pub class_item : ClassItem → class_tree.ClassItem
class_item (class_items.Property p) = class_tree.Property (property p.value)
class_item (class_items.Method m) = class_tree.Method (method m.value)
class_item (class_items.Pure m) = class_tree.Pure (pure_method m.value)
class_item (class_items.Typedef t) = class_tree.Typedef (typedef t.value)
class_item (class_items.Announce n) = class_tree.Announce n
class_item class_items.Null = class_tree.Null

abbrev pub class : Class → class_tree.Class
class c = record { at = c.at; is_virtual = c.is_virtual; name = c.name; base = c.base; items = map class_item c.items.items; label = c.label }

abbrev pub skew : Skew → tree.Skew
skew (skews.OneStep at) = tree.OneStep at
skew (skews.Amount at e) = tree.Amount at (expr e)

abbrev pub sided : Sided → tree.Sided
sided s = record { direction = s.direction; skew = option_map skew s.skew }

abbrev pub clocking_item : ClockingItem → tree.ClockingItem
clocking_item (clocking_items.Default ss) = tree.Default (map sided ss.items)
clocking_item (clocking_items.Signals ss ns) = tree.Signals (map sided ss.items) ns.items

abbrev pub clocking : ClockingBlock → tree.ClockingBlock
clocking b = record { default = b.default; name = b.name; edge = b.edge; event = b.event; items = map clocking_item b.items.items; label = b.label }

abbrev pub net_item : NetItem → tree.NetItem
net_item n = record { name = n.name; value = option_map expr n.value }

abbrev pub net : NetDecl → tree.NetDecl
net n = record { at = n.at; sign = n.sign; range = option_map range n.range; names = map net_item n.names.items }

abbrev pub assign_item : AssignItem → tree.AssignItem
assign_item a = record { target = lval a.target; value = expr a.value }

abbrev pub procedure : Procedure → tree.Procedure
procedure p = record { at = p.at; word = p.word; body = stmt p.body }

abbrev pub item : Item → item_tree.Item
item (items.Net n) = item_tree.Net (net n.value)
item (items.Assign as_) = item_tree.Assign (map assign_item as_.items)
item (items.Instances i) = item_tree.Instances (instances i.value)
item (items.Procedure p) = item_tree.Procedure (procedure p.value)
item (items.Decl d) = item_tree.Decl (decl d.value)
item (items.Typedef t) = item_tree.Typedef (typedef t.value)
item (items.Announce n) = item_tree.Announce n
item (items.Class c) = item_tree.Class (class c.value)
item (items.Param p) = item_tree.Param (param p.value)
item (items.Routine r) = item_tree.Routine (routine r.value)
item (items.Clocking b) = item_tree.Clocking (clocking b.value)
item (items.DefaultClocking at n) = item_tree.DefaultClocking at n
item items.Null = item_tree.Null

abbrev pub design_element : DesignElement → item_tree.DesignElement
design_element d = record { at = d.at; life = d.life; name = d.name; params = option_map (λ ps. map param ps.items) d.params; ports = map port d.ports.items; items = map item d.items.items; label = d.label }

abbrev pub description : Description → description_tree.Description
description (descriptions.Module d) = description_tree.Module (design_element d.value)
description (descriptions.Program d) = description_tree.Program (design_element d.value)
description (descriptions.Item i) = description_tree.Item (item i)
