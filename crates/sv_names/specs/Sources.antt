-- The processes and subroutines of a design, with what they write and call.
use Rattle.std.specs.Prelude.{ℕ, zero, suc, ◌+◌, ◌^◌, Bool, true, false, not, ◌||◌, List, [], ◌∷◌, ◌++◌, Option, Some, None, if◌then◌else◌, map, flat_map, filter, nat_lt}
use Rattle.sv_value.specs.declared.place.Place.{Place}
use Rattle.sv_tree.specs.declared.word.Name.{Name}
use Rattle.sv_tree.specs.Expr as tree
use Rattle.sv_tree.specs.Stmt as tree_stmt
use Rattle.sv_tree.specs.Units as tree_unit
use Rattle.sv_tree.specs.Classes as tree_class
use Rattle.sv_tree.specs.Items as tree_item
use Rattle.sv_tree.specs.Items.{Item}
use Rattle.sv_tree.specs.Units.{Method}
use Rattle.sv_names.specs.declared.typed.How.TheVariants.{Continuous}
use Rattle.sv_names.specs.declared.around.ClassInfo.{ClassInfo}
use Rattle.sv_names.specs.declared.checked.Checked.{Checked}
use Rattle.sv_names.specs.declared.checked.Checked.TheVariants.{Good, Broken}
use Rattle.sv_names.specs.declared.scope.Scope.{Scope}
use Rattle.sv_names.specs.declared.ty.Ty.{Ty}
use Rattle.sv_names.specs.declared.ty.Ty.TheVariants.{Nothing}
use Rattle.sv_names.specs.declared.named.Named.{Named}
use Rattle.sv_names.specs.declared.named.Named.TheVariants.{Property, StaticProperty}
use Rattle.sv_names.specs.declared.named.Callee.{Callee}
use Rattle.sv_names.specs.declared.named.SignalInfo.{SignalInfo}
use Rattle.sv_names.specs.Checked.{given, fine, broken_at, ◌where_also◌}
use Rattle.sv_names.specs.Types.{Path}
use Rattle.sv_names.specs.Named.{Around, class_in, in_known}
use Rattle.sv_names.specs.Expressions.{as_expr}
use Rattle.sv_names.specs.Entries.{has_result, is_static_method, is_constructor, plain_routine, subroutine_is_automatic}
use Rattle.sv_names.specs.Scopes.{callee_within, subroutine_path, subroutine_scope, signals_in}
use Rattle.sv_names.specs.Groups.{in_class}
use Rattle.sv_names.specs.Assignments.{place_of_init, place_of_lval}
use Rattle.sv_names.specs.Blocks.{after_scopes}
use Rattle.sv_names.specs.Subroutines.{body_scope, in_body, returns_of, for_properties, constructor_path}
use Rattle.sv_names.specs.Writers.{Touch, Writes, Calls, Declares, Writer, Continuously, No_process, Source, Table, writer_of, stmt_touches, stmts_touches, decls_touches, init_touches, target_touches, Initialized, declares, scope_declares, nearest_declares}
use Rattle.sv_names.specs.Instances.{Inst, Walked, Enter, Meet, Connect, Pass, PortInfo, ports_of, plain_name}
use Rattle.sv_names.specs.Groups.{Group}
use Rattle.sv_names.specs.Connections.{Linked, To_expr, To_same, linked_port, output_target}

-- ---- subroutines

-- what is seen in the statements of a subroutine with this head
abbrev pub within_routine : Around → Scope → Callee → Option Path → Method → Around
within_routine ar s c k m =
    let auto : Bool = subroutine_is_automatic ar.is_automatic k m.routine.head in
    let result : Bool = has_result m.routine.head in
    in_body ar (body_scope s c auto result) auto (not (is_static_method m)) true (returns_of result c)

-- what a subroutine declares, writes and calls
abbrev pub scope_touches : Around → Scope → Option Path → Method → List Touch
scope_touches ar s k m = within (within_routine ar s (callee_within ar s false k m) k m)
  where
    within : Around → List Touch
    within i = nearest_declares i.scopes ++ decls_touches i m.routine.decls ++ stmts_touches i m.routine.stmts

-- the same by its path
abbrev pub subroutine_touches : Around → Path → Option Path → Method → Path × List Touch
subroutine_touches ar p k m = (subroutine_path p m, scope_touches ar (subroutine_scope ar p k m) k m)

-- ---- classes

-- the type that a property has
abbrev pub type_of_property : Named → Ty
type_of_property (Property k g n t) = t
type_of_property (StaticProperty k g p t) = t
type_of_property n = Nothing

-- the type of a property by its name
abbrev pub property_type : ClassInfo → Name → Checked Ty
property_type k n = told (in_known 0 0 n.text k.scope.known)
  where
    told : Option (Checked Named) → Checked Ty
    told None = Good Nothing
    told (Some c) = given type_of_property c

-- what the initializer of a property does
abbrev pub property_touches : Around → ClassInfo → tree_stmt.Declarator → List Touch
property_touches i k x = of_init x.init
  where
    of_init : Option tree_stmt.Init → List Touch
    of_init None = []
    of_init (Some e) = init_touches i (property_type k x.name) e

-- those of an item
abbrev pub initializer_touches : Around → ClassInfo → tree_class.ClassItem → List Touch
initializer_touches i k (tree_class.Property p) =
    if p.qualifiers.is_static then [] else flat_map (property_touches i k) p.decl.names
initializer_touches i k x = []

-- the constructor of the base
abbrev pub base_touches : Option Path → List Touch
base_touches None = []
base_touches (Some b) = Calls (constructor_path b) ∷ []

-- what every constructor of the class does first
abbrev pub opening_touches : Around → ClassInfo → List tree_class.ClassItem → List Touch
opening_touches ar k is = base_touches k.base ++ flat_map (initializer_touches (for_properties ar k k.name.at) k) is

-- what a written constructor does
abbrev pub written_constructors : Around → ClassInfo → tree_class.ClassItem → List Touch
written_constructors ar k (tree_class.Method m) =
    if is_constructor m.routine.head then (subroutine_touches ar k.path (Some k.path) m).1 else []
written_constructors ar k i = []

-- what a method does
abbrev pub method_touches : Around → ClassInfo → tree_class.ClassItem → Table
method_touches ar k (tree_class.Method m) =
    if is_constructor m.routine.head then [] else subroutine_touches ar k.path (Some k.path) m ∷ []
method_touches ar k i = []

-- the subroutines of a class
abbrev pub class_table : Around → ClassInfo → List tree_class.ClassItem → Table
class_table ar k is =
    (constructor_path k.path, opening_touches ar k is ++ flat_map (written_constructors ar k) is)
    ∷ flat_map (method_touches ar k) is

-- of a class, if it is known
abbrev pub named_class : Around → List tree_class.ClassItem → Option ClassInfo → Table
named_class ar is None = []
named_class ar is (Some k) = class_table (in_class k.path ar) k is

-- the subroutines of an item
abbrev pub item_table : Around → Path → Item → Table
item_table ar p (tree_item.Routine r) = subroutine_touches ar p None (plain_routine r) ∷ []
item_table ar p (tree_item.Class c) = named_class ar c.items (class_in ar.classes (p ++ c.name.text ∷ []))
item_table ar p i = []

-- ---- processes

-- a process with what it writes and calls; the outputs of a clocking block stand here too
pub record Process : Type 0 where
  pub at : Place
  pub writer : Writer
  pub touches : List Touch

-- a process with its touches
abbrev pub process : Place → Writer → List Touch → Process
process at w ts = record { at = at; writer = w; touches = ts }

-- a driven signal
abbrev pub output_of : SignalInfo → List Touch
output_of s = if s.is_output then Writes s.name.at s.object ∷ [] else []

-- the outputs of a clocking block
abbrev pub signal_touches : Checked SignalInfo → List Touch
signal_touches (Good s) = output_of s
signal_touches (Broken f) = []

-- what a connection writes
abbrev pub expr_written : Around → Option tree.Expr → List Touch
expr_written ar None = []
expr_written ar (Some e) = target_touches Continuous ar e

-- where a connection stands
abbrev pub place_of_link : Linked → Place
place_of_link (To_expr at e) = at
place_of_link (To_same at an) = at

-- a port connection
abbrev pub port_process : Around → PortInfo → Option Linked → List Process
port_process ar p None = []
port_process ar p (Some l) =
    process (place_of_link l) Continuously (if p.is_input then [] else expr_written ar (output_target p (Some l))) ∷ []

-- a net declaration with a value counts as an `assign`
abbrev pub net_process : Around → tree_unit.NetItem → List Process
net_process ar x = of_value x.value
  where
    of_value : Option tree.Expr → List Process
    of_value None = []
    of_value (Some e) = process x.name.at Continuously (target_touches Continuous ar (plain_name x.name)) ∷ []

-- the processes of an item
abbrev pub item_processes : Around → Inst → Item → List Process
item_processes ar i (tree_item.Procedure p) = process p.at (writer_of p.word) (stmt_touches ar p.body) ∷ []
item_processes ar i (tree_item.Assign as') =
    map (λ a. process (place_of_lval a.target) Continuously (target_touches Continuous ar (as_expr a.target))) as'
item_processes ar i (tree_item.Clocking b) =
    process b.name.at No_process (flat_map signal_touches (signals_in ar (i.path ++ b.name.text ∷ []) b.items)) ∷ []
item_processes ar i (tree_item.Net n) = flat_map (net_process ar) n.names
item_processes ar i x = []

-- each process with a number of its own
abbrev pub numbered : ℕ → List Process → List Source
numbered k [] = []
numbered k (p ∷ ps) = record { process = k; writer = p.writer; touches = p.touches } ∷ numbered (suc k) ps

-- ---- what is declared

-- what a name of a unit declares
abbrev pub declared_in : Group → Name → List Touch
declared_in g n = of_known (in_known 0 0 n.text g.scope.known)
  where
    of_known : Option (Checked Named) → List Touch
    of_known None = []
    of_known (Some c) = declares n.at c

-- the properties of a class
abbrev pub class_declares : Option ClassInfo → List Touch
class_declares None = []
class_declares (Some k) = scope_declares k.scope

-- what an item declares
abbrev pub item_declares : Around → Group → Path → Item → List Touch
item_declares ar g p (tree_item.Decl d) = flat_map (λ x. declared_in g x.name) d.names
item_declares ar g p (tree_item.Net n) = flat_map (λ x. declared_in g x.name) n.names
item_declares ar g p (tree_item.Class c) = class_declares (class_in ar.classes (p ++ c.name.text ∷ []))
item_declares ar g p x = []

-- ---- what is met on the walk: what it declares, its processes and its subroutines

-- what an item declares, its processes and its subroutines
pub record Met : Type 0 where
  pub declared : List Touch
  pub processes : List Process
  pub table : Table

-- what is met on the walk
abbrev pub met : (Inst → Around) → Walked → Met
met at_inst (Enter i) =
    record { declared = flat_map (λ p. declared_in i.group p.name) (ports_of i.unit.element); processes = []; table = [] }
met at_inst (Meet i b item) =
    record {
      declared = item_declares (at_inst i) i.group i.path item;
      processes = item_processes (after_scopes b (at_inst i)) i item;
      table = item_table (at_inst i) i.path item;
    }
met at_inst (Connect i c cs) =
    record {
      declared = [];
      processes = flat_map (λ p. port_process (at_inst i) p (linked_port c.unit.element cs p)) (ports_of c.unit.element);
      table = [];
    }
met at_inst (Pass at) = record { declared = []; processes = []; table = [] }

-- an item outside units
abbrev pub met_outside : Around → Group → Item → Met
met_outside files g item = record { declared = item_declares files g [] item; processes = []; table = item_table files [] item }

-- all of it, in order
abbrev pub touches_in : Met → List Touch
touches_in m = m.declared ++ flat_map (λ p. p.touches) m.processes ++ flat_map (λ e. e.1) m.table

-- ---- E44: what passes a limit

-- objects and elements up to the one that passes a limit
abbrev pub counted : ℕ → ℕ → List Touch → Checked (Unit {0})
counted objects elements [] = fine
counted objects elements (Declares at o n ∷ ts) =
    if nat_lt (2 ^ 17) (objects + o) || nat_lt (2 ^ 22) (elements + n) then broken_at 44 at
    else counted (objects + o) (elements + n) ts
counted objects elements (t ∷ ts) = counted objects elements ts

-- all but clocking blocks are processes
abbrev pub is_first_process : Process → Bool
is_first_process p = by p.writer
  where
    by : Writer → Bool
    by No_process = false
    by w = true

-- so many processes
abbrev pub at_most : ℕ → List Process → Checked (Unit {0})
at_most n [] = fine
at_most zero (p ∷ ps) = broken_at 44 p.at
at_most (suc n) (p ∷ ps) = at_most n ps

-- the limits of a design
abbrev pub limits_stand : List Met → Checked (Unit {0})
limits_stand ms =
    counted 0 0 (flat_map touches_in ms)
    where_also at_most (2 ^ 18) (filter is_first_process (flat_map (λ m. m.processes) ms))

-- ---- initializers of variables

-- a variable with an initializer
abbrev pub initialized_at : Path → tree_stmt.Declarator → List Initialized
initialized_at p x = of_init x.init
  where
    of_init : Option tree_stmt.Init → List Initialized
    of_init None = []
    of_init (Some e) = (p ++ x.name.text ∷ [], place_of_init e) ∷ []

-- the initializers of an item
abbrev pub initialized : Walked → List Initialized
initialized (Meet i b (tree_item.Decl d)) = flat_map (initialized_at i.path) d.names
initialized w = []
