-- What is met on the walk through a design, in the parts in which the code puts it together.
use Rattle.std.specs.Prelude.{ℕ, Bool, not, ◌&&◌, List, [], ◌∷◌, ◌++◌, Option, Some, None, map, flat_map, if◌then◌else◌}
use Rattle.sv_value.specs.declared.place.Place.{Place}
use Rattle.sv_tree.specs.declared.class.Qualifiers.{Qualifiers}
use Rattle.sv_tree.specs.declared.statement.Declarator.{Declarator}
use Rattle.sv_tree.specs.declared.unit.AssignItem.{AssignItem}
use Rattle.sv_tree.specs.declared.unit.NetItem.{NetItem}
use Rattle.sv_tree.specs.Classes as tree_class
use Rattle.sv_tree.specs.Expr as tree
use Rattle.sv_tree.specs.Items as tree_item
use Rattle.sv_tree.specs.Items.{DesignElement, Item}
use Rattle.sv_tree.specs.StmtView as stmt_view
use Rattle.sv_tree.specs.Units as tree_unit
use Rattle.sv_tree.specs.Units.{Connection, Head, Method}
use Rattle.sv_tree.specs.UnitView as view
use Rattle.sv_names.specs.declared.around.ClassInfo.{ClassInfo}
use Rattle.sv_names.specs.declared.checked.Checked.{Checked}
use Rattle.sv_names.specs.declared.checked.Checked.TheVariants.{Good}
use Rattle.sv_names.specs.declared.named.Callee.{Callee}
use Rattle.sv_names.specs.declared.named.Kind.TheVariants.{Object as Of_object}
use Rattle.sv_names.specs.declared.named.Known.{Known}
use Rattle.sv_names.specs.declared.named.Named.{Named}
use Rattle.sv_names.specs.declared.named.Named.TheVariants.{Local}
use Rattle.sv_names.specs.declared.named.SignalInfo.{SignalInfo}
use Rattle.sv_names.specs.declared.scope.Scope.{Scope}
use Rattle.sv_names.specs.declared.ty.Ty.{Ty}
use Rattle.sv_names.specs.declared.ty.Ty.TheVariants.{Class as A_class}
use Rattle.sv_names.specs.declared.typed.How.TheVariants.{Continuous}
use Rattle.sv_names.specs.Assignments.{place_of_lval}
use Rattle.sv_names.specs.Blocks.{after_scopes}
use Rattle.sv_names.specs.Checked.{given}
use Rattle.sv_names.specs.Connections.{Linked, linked_port, output_target}
use Rattle.sv_names.specs.Entries.{is_constructor, plain_routine, this_name}
use Rattle.sv_names.specs.Expressions.{as_expr}
use Rattle.sv_names.specs.Groups.{Group}
use Rattle.sv_names.specs.Instances.{PortInfo, ports_of}
use Rattle.sv_names.specs.Named.{Around}
use Rattle.sv_names.specs.Scopes.{signals_in}
use Rattle.sv_names.specs.Sources as sources
use Rattle.sv_names.specs.Sources.{Met, Process, process}
use Rattle.sv_names.specs.Subroutines.{constructor_path, for_properties}
use Rattle.sv_names.specs.Types.{Path}
use Rattle.sv_names.specs.Writers.{Touch, Calls, Continuously, Initialized, No_process, Table, decls_touches, nearest_declares, stmt_touches, stmts_touches, target_touches, writer_of}

-- ---- what is declared

-- by ports
abbrev pub ports_declare : Group → List PortInfo → List Touch
ports_declare g ps = flat_map (λ p. sources.declared_in g p.name) ps

-- by the names of a declaration
abbrev pub declarators_declare : Group → List Declarator → List Touch
declarators_declare g xs = flat_map (λ x. sources.declared_in g x.name) (map stmt_view.declarator xs)

-- by nets
abbrev pub nets_declare : Group → List NetItem → List Touch
nets_declare g xs = flat_map (λ x. sources.declared_in g x.name) (map view.net_item xs)

-- ---- subroutines

-- whether a subroutine with these words before it has an object at hand
abbrev pub has_object : Qualifiers → Head → Bool
has_object q h = not (q.is_static && not (is_constructor h))

-- what a subroutine does whose statements see this
abbrev pub body_touches : Around → tree_unit.Routine → List Touch
body_touches i r = nearest_declares i.scopes ++ decls_touches i r.decls ++ stmts_touches i r.stmts

-- the same over its scope and its head
abbrev pub over_touches : Around → Scope → Callee → Option Path → Method → List Touch
over_touches ar s c k m = body_touches (sources.within_routine ar s c k m) m.routine

-- the same of one that the scope with this path declares
abbrev pub routine_touches : Around → Path → Option Path → Method → List Touch
routine_touches ar p k m = (sources.subroutine_touches ar p k m).1

-- ---- classes

-- the object of a constructor, by its name
abbrev pub this_known : Path → Place → Known
this_known k at = record { name = this_name at; kind = Of_object; value = Good (Local 0 0 (A_class k)) }

-- the type of a property, or the rule that its declaration breaks
abbrev pub property_type_of : Checked Named → Checked Ty
property_type_of c = given sources.type_of_property c

-- the initializers of properties
abbrev pub properties_touches : Around → ClassInfo → List Declarator → List Touch
properties_touches i k xs = flat_map (sources.property_touches i k) (map stmt_view.declarator xs)

-- those of a declaration
abbrev pub property_item_touches : Around → ClassInfo → tree_unit.Property → List Touch
property_item_touches i k p = sources.initializer_touches i k (tree_class.Property p)

-- those of items
abbrev pub initializers_touches : Around → ClassInfo → List tree_class.ClassItem → List Touch
initializers_touches i k is = flat_map (sources.initializer_touches i k) is

-- the same, where they stand in every constructor
abbrev pub all_initializers : Around → ClassInfo → List tree_class.ClassItem → List Touch
all_initializers ar k is = initializers_touches (for_properties ar k k.name.at) k is

-- a call of a constructor
abbrev pub constructed : Path → List Touch
constructed p = Calls (constructor_path p) ∷ []

-- what a method does that is a constructor
abbrev pub written_method : Around → ClassInfo → Method → List Touch
written_method ar k m = sources.written_constructors ar k (tree_class.Method m)

-- what the written constructors do
abbrev pub all_written : Around → ClassInfo → List tree_class.ClassItem → List Touch
all_written ar k is = flat_map (sources.written_constructors ar k) is

-- the constructor of a class
abbrev pub constructor_row : Around → ClassInfo → List tree_class.ClassItem → Path × List Touch
constructor_row ar k is = (constructor_path k.path, sources.opening_touches ar k is ++ all_written ar k is)

-- a method that is no constructor
abbrev pub method_rows : Around → ClassInfo → Method → Table
method_rows ar k m = sources.method_touches ar k (tree_class.Method m)

-- the methods of a class
abbrev pub all_methods : Around → ClassInfo → List tree_class.ClassItem → Table
all_methods ar k is = flat_map (sources.method_touches ar k) is

-- the subroutines of a class of the unit with this path
abbrev pub class_rows : Around → Path → tree_class.Class → Table
class_rows ar p c = sources.item_table ar p (tree_item.Class c)

-- a subroutine of the unit with this path
abbrev pub routine_rows : Around → Path → tree_unit.Routine → Table
routine_rows ar p r = sources.subroutine_touches ar p None (plain_routine r) ∷ []

-- ---- processes

-- what a target writes
abbrev pub lval_written : Around → tree.Lval → List Touch
lval_written ar l = target_touches Continuous ar (as_expr l)

-- an assignment
abbrev pub assigning : Around → tree_unit.AssignItem → Process
assigning ar a = process (place_of_lval a.target) Continuously (lval_written ar a.target)

-- assignments
abbrev pub assign_processes : Around → List AssignItem → List Process
assign_processes ar as' = map (assigning ar) (map view.assign_item as')

-- nets
abbrev pub net_processes : Around → List NetItem → List Process
net_processes ar ns = flat_map (sources.net_process ar) (map view.net_item ns)

-- a procedure
abbrev pub procedure_process : Around → tree_unit.Procedure → Process
procedure_process ar p = process p.at (writer_of p.word) (stmt_touches ar p.body)

-- the outputs of signals
abbrev pub all_signals : List (Checked SignalInfo) → List Touch
all_signals ss = flat_map sources.signal_touches ss

-- the outputs of a clocking block, in the instance with this path
abbrev pub clocking_process : Around → Path → tree_unit.ClockingBlock → Process
clocking_process ar p b = process b.name.at No_process (all_signals (signals_in ar (p ++ b.name.text ∷ []) b.items))

-- an item of the instance with this path
abbrev pub item_processes : Around → Path → Item → List Process
item_processes ar p (tree_item.Procedure x) = procedure_process ar x ∷ []
item_processes ar p (tree_item.Assign as') = map (assigning ar) as'
item_processes ar p (tree_item.Clocking b) = clocking_process ar p b ∷ []
item_processes ar p (tree_item.Net n) = flat_map (sources.net_process ar) n.names
item_processes ar p x = []

-- ---- port connections

-- what the connection of an output writes
abbrev pub output_written : Around → PortInfo → Linked → List Touch
output_written ar p l = sources.expr_written ar (output_target p (Some l))

-- what a connection writes
abbrev pub link_written : Around → PortInfo → Linked → List Touch
link_written ar p l = if p.is_input then [] else output_written ar p l

-- the process of a port
abbrev pub port_process : Around → DesignElement → List Connection → PortInfo → List Process
port_process ar u cs p = sources.port_process ar p (linked_port u cs p)

-- the processes of ports
abbrev pub port_processes : Around → DesignElement → List Connection → List PortInfo → List Process
port_processes ar u cs ps = flat_map (port_process ar u cs) ps

-- ---- what is met

-- behind so many scopes
abbrev pub behind : ℕ → Around → Around
behind n ar = after_scopes n ar

-- an instance
abbrev pub entered : Group → DesignElement → Met
entered g u = record { declared = ports_declare g (ports_of u); processes = []; table = [] }

-- an item of the instance with this path, behind so many blocks of the unit
abbrev pub item_met : Around → (blocks : ℕ) → Group → Path → Item → Met
item_met ar b g p x =
    record {
      declared = sources.item_declares ar g p x;
      processes = item_processes (behind b ar) p x;
      table = sources.item_table ar p x;
    }

-- the port connections of an instance of this unit
abbrev pub connected : Around → DesignElement → List Connection → Met
connected ar u cs = record { declared = []; processes = port_processes ar u cs (ports_of u); table = [] }

-- ---- initializers

-- those of a declaration
abbrev pub declarators_initialized : Path → List Declarator → List Initialized
declarators_initialized p xs = flat_map (sources.initialized_at p) (map stmt_view.declarator xs)

-- those of an item of the instance with this path
abbrev pub item_initialized : Path → Item → List Initialized
item_initialized p (tree_item.Decl d) = flat_map (sources.initialized_at p) d.names
item_initialized p x = []
