-- What the items of a unit give, in parts.
use Rattle.std.specs.Prelude.{ℕ, Bool, true, false, List, [], ◌∷◌, ◌++◌, flat_map, Option, Some, None, if◌then◌else◌}
use Rattle.sv_value.specs.declared.place.Place.{Place}
use Rattle.sv_flat.specs.declared.object.Initial.{Initial}
use Rattle.sv_flat.specs.declared.object.Object.{Object}
use Rattle.sv_flat.specs.declared.object.ObjectKind.{ObjectKind}
use Rattle.sv_tree.specs.declared.class.Class.{Class}
use Rattle.sv_tree.specs.declared.unit.Routine.{Routine}
use Rattle.sv_tree.specs.declared.word.Name.{Name}
use Rattle.sv_tree.specs.UnitView.{class, routine}
use Rattle.sv_tree.specs.Stmt.{Declarator}
use Rattle.sv_tree.specs.Classes as tree_class
use Rattle.sv_tree.specs.Units as tree
use Rattle.sv_tree.specs.Units.{Procedure}
use Rattle.sv_names.specs.declared.around.ClassInfo.{ClassInfo}
use Rattle.sv_names.specs.declared.checked.Checked.{Checked}
use Rattle.sv_names.specs.declared.checked.Checked.TheVariants.{Good}
use Rattle.sv_names.specs.declared.named.Named.{Named}
use Rattle.sv_names.specs.declared.ty.Ty.{Ty}
use Rattle.sv_names.specs.Assignments.{initial_of}
use Rattle.sv_names.specs.Checked.{given, each, both, fine, broken_at, ◌where_also◌, ◌▷◌}
use Rattle.sv_names.specs.Classes.{joined, class_parts}
use Rattle.sv_names.specs.Clockings.{clocking_of}
use Rattle.sv_names.specs.Code.{object_at}
use Rattle.sv_names.specs.Connections.{Made, assign_made, net_made, port_link, connections_fit, connections_stand}
use Rattle.sv_names.specs.Entries.{plain_routine}
use Rattle.sv_names.specs.Groups.{Group}
use Rattle.sv_names.specs.Instances.{Inst, PortInfo, ports_of, port_names}
use Rattle.sv_names.specs.Items.{GivenParts, nothing, flattened, variable_object, net_object, port_object, known_as, type_of_object, at_most_one, ports_alone, class_made, class_given, subroutine_made, is_block, procedure_code, procedure_made}
use Rattle.sv_names.specs.Named.{Around, meaning}
use Rattle.sv_names.specs.Subroutines.{made_subroutine, nothing_before}
use Rattle.sv_names.specs.Types.{Path, among}

-- the objects of the variables of a declaration
abbrev pub variables_of : Around → Group → List Declarator → Checked (List Object)
variables_of ar g ds = flattened (each (variable_object ar g) ds)

-- the objects of nets
abbrev pub nets_of : Around → Group → List tree.NetItem → Checked (List Object)
nets_of ar g ns = flattened (each (net_object ar g) ns)

-- the object of a port
abbrev pub port_of : Around → Group → PortInfo → Checked (List Object)
port_of ar g p = given (port_object ar p) (known_as g p.name)

-- the objects of ports
abbrev pub ports_in : Around → Group → List PortInfo → Checked (List Object)
ports_in ar g ps = flattened (each (port_of ar g) ps)

-- the processes of net declarations with values
abbrev pub net_processes : Around → List tree.NetItem → Checked (List Made)
net_processes ar ns = joined (each (net_made ar) ns)

-- the processes of `assign`
abbrev pub assign_processes : Around → List tree.AssignItem → Checked (List Made)
assign_processes ar as' = each (assign_made ar) as'

-- the processes of connections
abbrev pub link_processes : Around → Inst → List tree.Connection → List PortInfo → Checked (List Made)
link_processes ar c cs ps = joined (each (port_link ar c cs) ps)

-- objects alone
abbrev pub only_objects : Checked (List Object) → Checked GivenParts
only_objects c = given (λ os. record nothing { objects = os }) c

-- processes alone
abbrev pub only_processes : Checked (List Made) → Checked GivenParts
only_processes c = given (λ ps. record nothing { processes = ps }) c

-- objects and processes
abbrev pub objects_and_processes : Checked (List Object) → Checked (List Made) → Checked GivenParts
objects_and_processes a b = given (λ p. record nothing { objects = p.0; processes = p.1 }) (both a b)

-- a procedure
abbrev pub procedure_given : Around → Procedure → Checked GivenParts
procedure_given ar p = given (procedure_made ar p) (procedure_code ar p)

-- an object of a unit
abbrev pub traced : Around → ObjectKind → (is_port : Bool) → Place → Path → Ty → Option Initial → List Object
traced ar k port at p t i = object_at ar k port false true at p t i ∷ []

-- the initial value of a variable, by what its name stands for
abbrev pub initial_named : Around → Declarator → Named → Checked (Option Initial)
initial_named ar d n = initial_of ar d.name.at (type_of_object n) d.init

-- a place, where there is one
abbrev pub places_of : Option Place → List Place
places_of None = []
places_of (Some p) = p ∷ []

-- E48: further defaults, behind one or none
abbrev pub at_most_behind : (has_one : Bool) → List Place → Checked (Unit {0})
at_most_behind false ps = at_most_one ps
at_most_behind true [] = fine
at_most_behind true (p ∷ ps) = broken_at 48 p

-- the unit of instances breaks a rule, and they are not walked
abbrev pub refused : Around → (rule : ℕ) → tree.Instances → Checked (Unit {0})
refused ar n x = broken_at n x.of.at where_also ports_alone ar x.list

-- E3: a unit contains itself
abbrev pub not_contained : Around → List (List ℕ) → tree.Instances → Checked (Unit {0})
not_contained ar names x = if among x.of.text names then refused ar 3 x else fine

-- a class by what is known of it
abbrev pub info_made : Around → tree_class.Class → Path → Option ClassInfo → Checked GivenParts
info_made ar c p None = Good nothing
info_made ar c p (Some k) = given (class_given p) (class_parts ar k c)

-- a class in the scope with this path
abbrev pub class_at : Around → Path → Class → Checked GivenParts
class_at ar p c = class_made ar (class c) (p ++ c.name.text ∷ [])

-- a subroutine in the scope with this path
abbrev pub routine_at : Around → Path → Routine → Checked GivenParts
routine_at ar p r =
    given subroutine_made (made_subroutine ar p None (plain_routine (routine r)) (routine r).stmts nothing_before)

-- a clocking block of the instance with this path
abbrev pub clocking_at : Around → Path → tree.ClockingBlock → Checked GivenParts
clocking_at ar p b = given (λ m. record nothing { clockings = m ∷ [] }) (clocking_of ar (p ++ b.name.text ∷ []) b)

-- E7: what is made the default clocking is a clocking block
abbrev pub default_stands : Around → Name → Checked (Unit {0})
default_stands ar n = meaning ar n ▷ is_block n.at

-- the ports of an instance
abbrev pub ports_given : Around → Inst → Checked GivenParts
ports_given ar i = only_objects (ports_in ar i.group (ports_of i.unit.element))

-- the processes of port connections
abbrev pub links_given : Around → Inst → List tree.Connection → Checked GivenParts
links_given ar c cs = given (λ ms. record nothing { processes = flat_map (λ m. m) ms }) (each (port_link ar c cs) (ports_of c.unit.element))

-- the port connections of an instance, and the rules on them
abbrev pub connected : Around → Inst → List tree.Connection → Checked GivenParts
connected ar c cs =
    links_given ar c cs where_also connections_fit (port_names c.unit.element) [] 0 cs where_also connections_stand ar cs
