-- What each item on the walk of the instances gives to the flat design, or the rules that it breaks.
use Rattle.std.specs.Prelude.{ℕ, ◌+◌, Bool, true, false, not, ◌&&◌, ◌||◌, List, [], ◌∷◌, ◌++◌, Option, Some, None, if◌then◌else◌, map, flat_map, filter, slice_get, is_some}
use Rattle.sv_value.specs.declared.place.Place.{Place}
use Rattle.sv_value.specs.declared.number.RoutineId.{RoutineId}
use Rattle.sv_value.specs.declared.schedule.Side.{Side}
use Rattle.sv_value.specs.declared.schedule.Side.TheVariants.{Active, Reactive}
use Rattle.sv_flat.specs.declared.class.Class.{Class}
use Rattle.sv_flat.specs.declared.object.Object.{Object}
use Rattle.sv_flat.specs.declared.object.Initial.{Initial}
use Rattle.sv_flat.specs.declared.object.ObjectKind.TheVariants as object_kind
use Rattle.sv_flat.specs.declared.process.Process.{Process}
use Rattle.sv_flat.specs.declared.process.ProcessKind.{ProcessKind}
use Rattle.sv_flat.specs.declared.process.ProcessKind.TheVariants as process_kind
use Rattle.sv_tree.specs.declared.word.Name.{Name}
use Rattle.sv_tree.specs.declared.word.ProcedureWord.{ProcedureWord}
use Rattle.sv_tree.specs.declared.word.ProcedureWord.TheVariants as procedure_word
use Rattle.sv_tree.specs.Expr.{place_of}
use Rattle.sv_tree.specs.Stmt as tree_stmt
use Rattle.sv_tree.specs.Stmt.{Declarator}
use Rattle.sv_tree.specs.Units as tree_unit
use Rattle.sv_tree.specs.Units.{Connection, Procedure}
use Rattle.sv_tree.specs.Classes as tree_class
use Rattle.sv_tree.specs.Items as tree_item
use Rattle.sv_tree.specs.Items.{Item, DesignElement}
use Rattle.sv_tree.specs.Descriptions.{Description}
use Rattle.sv_names.specs.declared.around.ClassInfo.{ClassInfo}
use Rattle.sv_names.specs.declared.checked.Checked.{Checked}
use Rattle.sv_names.specs.declared.checked.Checked.TheVariants.{Good}
use Rattle.sv_names.specs.declared.ty.Ty.{Ty}
use Rattle.sv_names.specs.declared.ty.Ty.TheVariants.{Nothing}
use Rattle.sv_names.specs.declared.named.Named.{Named}
use Rattle.sv_names.specs.declared.named.Named.TheVariants.{Variable, Net, Input, ClockingBlock}
use Rattle.sv_names.specs.Checked.{both, ◌▷◌, given, broken_at, rule, fine, ◌where_also◌, each, all}
use Rattle.sv_names.specs.Types.{Path, among}
use Rattle.sv_names.specs.Named.{Around, class_in, in_known, meaning}
use Rattle.sv_names.specs.Entries.{Entry, Declared, An_item, plain_routine, twice}
use Rattle.sv_names.specs.Scopes.{known_stand}
use Rattle.sv_names.specs.Groups.{Group}
use Rattle.sv_names.specs.Code.{Code, changed, as_routine, object_at}
use Rattle.sv_names.specs.Assignments.{initial_of}
use Rattle.sv_names.specs.Blocks.{after_scopes, end_label}
use Rattle.sv_names.specs.Statements.{stmt, at_event, place_from}
use Rattle.sv_names.specs.Subroutines.{MadeSubroutine, made_subroutine, nothing_before}
use Rattle.sv_names.specs.Classes.{ClassParts, class_parts, bases_stand, announcements_stand, joined}
use Rattle.sv_names.specs.Clockings.{MadeClocking, clocking_of}
use Rattle.sv_names.specs.Instances.{Definition, Inst, Walked, Enter, Meet, Connect, Pass, PortInfo, ports_of, port_names, definition_named, param_names, file_entries, file_heads, outside, within_inst}
use Rattle.sv_names.specs.Connections.{Made, assign_made, net_made, port_link, connections_fit, connections_stand}

-- ---- what an item gives

-- what an item gives to the flat design
pub record GivenParts : Type 0 where
  pub objects : List Object
  pub processes : List Made
  pub subroutines : List MadeSubroutine
  pub classes : List Class
  pub class_paths : List Path
  pub clockings : List MadeClocking

-- an item that gives nothing
abbrev pub nothing : GivenParts
nothing = record { objects = []; processes = []; subroutines = []; classes = []; class_paths = []; clockings = [] }

-- ---- procedures

-- the kind of a procedure
abbrev pub process_kind_of : ProcedureWord → ProcessKind
process_kind_of procedure_word.Initial = process_kind.Initial
process_kind_of procedure_word.Always = process_kind.Always
process_kind_of procedure_word.AlwaysComb = process_kind.AlwaysComb
process_kind_of procedure_word.AlwaysFf = process_kind.AlwaysFf

-- whether it is an `initial`
abbrev pub is_initial : ProcedureWord → Bool
is_initial procedure_word.Initial = true
is_initial k = false

-- the `initial` procedures of a program are on its side
abbrev pub side_of : Around → ProcedureWord → Side
side_of ar k = if ar.is_program && is_initial k then Reactive else Active

-- the program whose end a process counts for
abbrev pub program_of : Around → ProcedureWord → Option ℕ
program_of ar k = if ar.is_program && is_initial k then Some (ar.numbers.program ar.unit) else None

-- a process of a procedure
abbrev pub process_of : Around → Procedure → RoutineId → Process
process_of ar p r =
    record {
      at = p.at;
      path = ar.unit;
      kind = process_kind_of p.word;
      side = side_of ar p.word;
      program = program_of ar p.word;
      body = r;
      watched = [];
    }

-- behind the event control of an `always_ff`
abbrev pub clocked : Place → Around → Around
clocked at ar = record ar { clocked = Some at }

-- E28: an `always_ff` begins with its one event control
abbrev pub clocked_code : Around → Place → tree_stmt.Stmt → Checked Code
clocked_code ar at (tree_stmt.Statement p label (tree_stmt.On e x)) =
    at_event ar (place_from p label) e (stmt (clocked at ar) x)
clocked_code ar at x = stmt (clocked at ar) x where_also broken_at 28 at

-- the statements of a procedure
abbrev pub procedure_code : Around → Procedure → Checked Code
procedure_code ar p = of_word p.word
  where
    of_word : ProcedureWord → Checked Code
    of_word procedure_word.AlwaysComb = stmt (record ar { may_not_wait = true; is_comb = true }) p.body
    of_word procedure_word.AlwaysFf = clocked_code ar p.at p.body
    of_word w = stmt ar p.body

-- a procedure as a process
abbrev pub procedure_made : Around → Procedure → Code → GivenParts
procedure_made ar p c =
    record nothing {
      objects = c.objects;
      processes = record { drives = []; make = λ before. changed (process_of ar p) (as_routine p.at c) } ∷ [];
    }

-- ---- variables and nets of units

-- the object of a variable or net
abbrev pub object_named : Around → Name → Option Initial → Named → List Object
object_named ar n i (Variable p t) = object_at ar object_kind.Variable false false true n.at p t i ∷ []
object_named ar n i (Net p t) = object_at ar (object_kind.Net 0) false false true n.at p t i ∷ []
object_named ar n i x = []

-- the object of a port
abbrev pub port_object : Around → PortInfo → Named → List Object
port_object ar p (Variable q t) = object_at ar object_kind.Variable true false true p.name.at q t None ∷ []
port_object ar p (Net q t) = object_at ar (object_kind.Net 0) true false true p.name.at q t None ∷ []
port_object ar p (Input q true t) = object_at ar (object_kind.Net 0) true false true p.name.at q t None ∷ []
port_object ar p (Input q false t) = object_at ar object_kind.Variable true false true p.name.at q t None ∷ []
port_object ar p n = []

-- what a name of the unit stands for
abbrev pub known_as : Group → Name → Checked Named
known_as g n = told (in_known 0 0 n.text g.scope.known)
  where
    told : Option (Checked Named) → Checked Named
    told None = broken_at 6 n.at
    told (Some c) = c

-- the type that an object has
abbrev pub type_of_object : Named → Checked Ty
type_of_object (Variable p t) = Good t
type_of_object (Net p t) = Good t
type_of_object n = Good Nothing

-- a variable with its initial value
abbrev pub variable_object : Around → Group → Declarator → Checked (List Object)
variable_object ar g x =
    given (λ p. object_named ar x.name p.1 p.0)
    (both (known_as g x.name) (initial_of ar x.name.at (known_as g x.name ▷ type_of_object) x.init))

-- a net
abbrev pub net_object : Around → Group → tree_unit.NetItem → Checked (List Object)
net_object ar g x = given (object_named ar x.name None) (known_as g x.name)

-- ---- instances (E2, E3, E10)

-- a value for a parameter
abbrev pub value_names : List (List ℕ) → List (List ℕ) → Place → Option (List ℕ) → Checked (Unit {0})
value_names names seen at None = broken_at 10 at
value_names names seen at (Some x) = rule 10 at (not (among x names) || among x seen)

-- the names that stand before
abbrev pub with_seen : Option (List ℕ) → List (List ℕ) → List (List ℕ)
with_seen None seen = seen
with_seen (Some x) seen = x ∷ seen

-- E10: a value names no parameter, names one twice, or there are too many
abbrev pub values_name : List (List ℕ) → List (List ℕ) → ℕ → List Connection → Checked (Unit {0})
values_name names seen k [] = fine
values_name names seen k (tree_unit.Connection.Value e ∷ cs) =
    value_names names seen (place_of e) (slice_get names k)
    where_also values_name names (with_seen (slice_get names k) seen) (k + 1) cs
values_name names seen k (tree_unit.Named at n ∷ cs) =
    value_names names seen at (Some n.text) where_also values_name names (n.text ∷ seen) (k + 1) cs
values_name names seen k (tree_unit.Given at n e ∷ cs) =
    value_names names seen at (Some n.text) where_also values_name names (n.text ∷ seen) (k + 1) cs
values_name names seen k (tree_unit.All at ∷ cs) =
    broken_at 10 at where_also values_name names seen (k + 1) cs

-- what the connections of instances break by themselves
abbrev pub ports_alone : Around → List tree_unit.Instance → Checked (Unit {0})
ports_alone ar is = all (λ x. connections_stand ar x.connections) is

-- E2, E3, E10: the rules on an item with instances
abbrev pub instances_stand : Around → Inst → tree_unit.Instances → Option Definition → Checked (Unit {0})
instances_stand ar i x None = broken_at 2 x.of.at where_also ports_alone ar x.list
instances_stand ar i x (Some u) =
    (if among x.of.text i.chain then broken_at 3 x.of.at where_also ports_alone ar x.list else fine)
    where_also values_name (param_names u.element) [] 0 x.params

-- ---- the default clocking (E48)

-- where a default clocking is made
abbrev pub default_words : Item → List Place
default_words (tree_item.Clocking b) = of_word b.default
  where
    of_word : Option Place → List Place
    of_word None = []
    of_word (Some at) = at ∷ []
default_words (tree_item.DefaultClocking at n) = at ∷ []
default_words i = []

-- a second default
abbrev pub at_most_one : List Place → Checked (Unit {0})
at_most_one [] = fine
at_most_one (p ∷ []) = fine
at_most_one (p ∷ q ∷ ps) = broken_at 48 q

-- the clocking block of a name
abbrev pub block_path : Group → List ℕ → Option Path
block_path g x = of_known (in_known 0 0 x g.scope.known)
  where
    of_known : Option (Checked Named) → Option Path
    of_known (Some (Good (ClockingBlock p ss))) = Some p
    of_known k = None

-- the default clocking of a unit
abbrev pub default_in : Group → List Item → Option Path
default_in g [] = None
default_in g (tree_item.Clocking b ∷ more) = if is_some b.default then block_path g b.name.text else default_in g more
default_in g (tree_item.DefaultClocking at n ∷ more) = block_path g n.text
default_in g (i ∷ more) = default_in g more

-- E7: what is made the default is a clocking block
abbrev pub is_block : Place → Named → Checked (Unit {0})
is_block at (ClockingBlock p ss) = fine
is_block at n = broken_at 7 at

-- ---- all items

-- objects one after another
abbrev pub flattened : Checked (List (List Object)) → Checked (List Object)
flattened c = joined c

-- what a class gives: its static properties, and the static variables of its methods
abbrev pub class_given : Path → ClassParts → GivenParts
class_given p c =
    record nothing {
      objects = c.objects ++ flat_map (λ m. m.routine.objects) c.subroutines;
      subroutines = c.subroutines;
      classes = c.class ∷ [];
      class_paths = p ∷ [];
    }

-- a class
abbrev pub class_made : Around → tree_class.Class → Path → Checked GivenParts
class_made ar c p = of_info (class_in ar.classes p)
  where
    of_info : Option ClassInfo → Checked GivenParts
    of_info None = Good nothing
    of_info (Some k) = given (class_given p) (class_parts ar k c)

-- a subroutine
abbrev pub subroutine_made : MadeSubroutine → GivenParts
subroutine_made m = record nothing { objects = m.routine.objects; subroutines = m ∷ [] }

-- what stands outside units as in them
abbrev pub common_parts : Around → Path → Item → Checked GivenParts
common_parts ar p (tree_item.Class c) = class_made ar c (p ++ c.name.text ∷ [])
common_parts ar p (tree_item.Routine r) =
    given subroutine_made (made_subroutine ar p None (plain_routine r) r.stmts nothing_before)
common_parts ar p i = Good nothing

-- an item of a unit
abbrev pub item_parts : List Description → Around → Inst → Item → Checked GivenParts
item_parts us ar i (tree_item.Decl d) =
    given (λ os. record nothing { objects = os }) (flattened (each (variable_object ar i.group) d.names))
item_parts us ar i (tree_item.Net n) =
    given (λ p. record nothing { objects = p.0; processes = p.1 })
    (both (flattened (each (net_object ar i.group) n.names)) (joined (each (net_made ar) n.names)))
item_parts us ar i (tree_item.Assign as') = given (λ ps. record nothing { processes = ps }) (each (assign_made ar) as')
item_parts us ar i (tree_item.Procedure p) = given (procedure_made ar p) (procedure_code ar p)
item_parts us ar i (tree_item.Instances x) =
    Good nothing where_also instances_stand ar i x (definition_named x.of.text us) where_also connections_stand ar x.params
item_parts us ar i (tree_item.Clocking b) =
    given (λ m. record nothing { clockings = m ∷ [] }) (clocking_of ar (i.path ++ b.name.text ∷ []) b)
item_parts us ar i (tree_item.DefaultClocking at n) = Good nothing where_also (meaning ar n ▷ is_block n.at)
item_parts us ar i x = common_parts ar i.path x

-- ---- what is met on the walk

-- E5: the end label of a unit
abbrev pub label_stands : DesignElement → Checked (Unit {0})
label_stands u = end_label (Some u.name) u.label

-- the ports of an instance, and the rules on its scope
abbrev pub enter_parts : Around → Inst → Checked GivenParts
enter_parts ar i =
    given (λ os. record nothing { objects = os })
    (flattened (each (λ p. given (port_object ar p) (known_as i.group p.name)) (ports_of i.unit.element)))
    where_also known_stand i.group.scope.known
    where_also i.stands
    where_also label_stands i.unit.element
    where_also at_most_one (flat_map default_words i.unit.element.items)

-- what is seen in an instance
abbrev pub around_inst : List Description → Around → Inst → Around
around_inst us files i = with_default (within_inst us files i)
  where
    with_default : Around → Around
    with_default ar = record ar { default_clocking = default_in i.group i.unit.element.items }

-- what is met on the walk
abbrev pub walked_parts : List Description → Around → Walked → Checked GivenParts
walked_parts us files (Enter i) = enter_parts (around_inst us files i) i
walked_parts us files (Meet i b item) = item_parts us (after_scopes b (around_inst us files i)) i item
walked_parts us files (Connect i c cs) =
    given (λ ms. record nothing { processes = flat_map (λ m. m) ms })
    (each (port_link (around_inst us files i) c cs) (ports_of c.unit.element))
    where_also connections_fit (port_names c.unit.element) [] 0 cs
    where_also connections_stand (around_inst us files i) cs
walked_parts us files (Pass at) = broken_at 44 at

-- ---- the items outside units, which stand once

-- whether it is no item of an enum
abbrev pub is_no_item : Entry → Bool
is_no_item e = found e.what
  where
    found : Declared → Bool
    found (An_item w v k) = false
    found _ = true

-- E1, E5: two units or file items have one name, or an item of an enum has that of another declaration
abbrev pub files_differ : List Entry → Checked (Unit {0})
files_differ es = twice (λ e. 1) [] (filter is_no_item es) where_also twice (λ e. 5) [] es

-- the files, and the items in them
abbrev pub file_parts : List Description → Around → Group → List (Checked GivenParts)
file_parts us files g =
    (Good nothing where_also known_stand g.scope.known where_also files_differ (file_entries us)
    where_also announcements_stand (file_entries us) where_also bases_stand (file_heads us))
    ∷ map (common_parts files []) (outside us)
