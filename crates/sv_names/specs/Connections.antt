-- Continuous assignments, port connections and the processes that they make (IEEE 1800-2017, 10.3 and 23.3).
use Rattle.std.specs.Prelude.{ℕ, ◌+◌, Bool, true, false, not, ◌||◌, List, [], ◌∷◌, Option, Some, None, if◌then◌else◌, map, filter, slice_get, option_map, is_some}
use Rattle.sv_value.specs.declared.place.Place.{Place}
use Rattle.sv_value.specs.declared.number.RoutineId.{RoutineId}
use Rattle.sv_value.specs.declared.schedule.Side.TheVariants.{Active}
use Rattle.sv_flat.specs.declared.process.Process.{Process}
use Rattle.sv_flat.specs.declared.process.ProcessKind.{ProcessKind}
use Rattle.sv_flat.specs.declared.process.ProcessKind.TheVariants as process_kind
use Rattle.sv_flat.specs.declared.process.Watch.{Watch}
use Rattle.sv_flat.specs.declared.class.Routine.{Routine}
use Rattle.sv_flat.specs.declared.stmt.Stmt.{Stmt}
use Rattle.sv_flat.specs.declared.stmt.Form.TheVariants as form
use Rattle.sv_flat.specs.declared.target.Lvalue.{Lvalue}
use Rattle.sv_flat.specs.declared.target.Base.{Base}
use Rattle.sv_flat.specs.declared.target.Base.TheVariants as base
use Rattle.sv_flat.specs.Expr as flat
use Rattle.sv_tree.specs.declared.word.Name.{Name}
use Rattle.sv_tree.specs.Expr as tree
use Rattle.sv_tree.specs.Expr.{place_of}
use Rattle.sv_tree.specs.declared.expr.Root.TheVariants as root
use Rattle.sv_tree.specs.Units as tree_unit
use Rattle.sv_tree.specs.Units.{Connection}
use Rattle.sv_tree.specs.Items.{DesignElement}
use Rattle.sv_names.specs.declared.typed.How.TheVariants.{Continuous}
use Rattle.sv_names.specs.declared.checked.Checked.{Checked}
use Rattle.sv_names.specs.declared.checked.Checked.TheVariants.{Good, Broken}
use Rattle.sv_names.specs.declared.ty.Ty.TheVariants.{Nothing}
use Rattle.sv_names.specs.declared.hoisted.Hoisted.{Hoisted}
use Rattle.sv_names.specs.declared.typed.Typed.{Typed}
use Rattle.sv_names.specs.declared.named.Named.{Named}
use Rattle.sv_names.specs.declared.named.Named.TheVariants.{Variable, Net, Input}
use Rattle.sv_names.specs.declared.typed.Begin.{Begin}
use Rattle.sv_names.specs.declared.typed.Begin.TheVariants.{Variable as A_variable, Net as A_net, Value as A_value}
use Rattle.sv_names.specs.Checked.{both, ◌▷◌, given, broken_at, rule, fine, ◌where_also◌, only}
use Rattle.sv_names.specs.Types.{Path, is_container, same_bytes, among}
use Rattle.sv_names.specs.Hoisted.{mapped, paired, in_row}
use Rattle.sv_names.specs.Named.{Around, found, in_known, kind_stands, is_object_kind}
use Rattle.sv_names.specs.Values.{assigned}
use Rattle.sv_names.specs.Targets.{Spot, lvalue, type_of_target}
use Rattle.sv_names.specs.Things.{object_typed}
use Rattle.sv_names.specs.Expressions.{expr, target, target_in}
use Rattle.sv_names.specs.Code.{Numbered, Code, single, as_routine}
use Rattle.sv_names.specs.Assignments.{copied_into, place_of_lval}
use Rattle.sv_names.specs.Watched.{operands_of, body_from, object_of, on_change}
use Rattle.sv_names.specs.Clockings.{times_in}
use Rattle.sv_names.specs.Writers.{with_new}
use Rattle.sv_names.specs.Instances.{PortInfo, port_names, Inst, plain_name}

-- a process, with the nets that it drives; which driver it is depends on those before it
pub record Made : Type 0 where
  pub drives : List Path
  pub make : (before : List Path) → Numbered Process

-- ---- drivers

-- the net that a part of a target drives
abbrev pub net_driven : Spot → List Path
net_driven s = of_begin s.1.target.begins
  where
    of_begin : Begin → List Path
    of_begin (A_net p) = p ∷ []
    of_begin b = []

-- a net is written by its driver
abbrev pub as_driver : ℕ → Base → Base
as_driver k (base.Object o) = base.Driver o k
as_driver k b = b

-- a driver of a net has the number of those of the processes before it
abbrev pub driving : List Path → List Path → Lvalue → Lvalue
driving before [] l = l
driving before (p ∷ ps) l = record l { base = as_driver (times_in p before) l.base }

-- the targets of a process, with the numbers of its drivers
abbrev pub drivers : Around → List Path → List Spot → List (Hoisted Lvalue)
drivers ar before [] = []
drivers ar before (s ∷ ss) = mapped (driving before (net_driven s)) (lvalue ar s.1) ∷ drivers ar before ss

-- a process has one driver of each net that it drives
abbrev pub nets_driven : List Path → List Spot → List Path
nets_driven ps [] = ps
nets_driven ps (s ∷ ss) = nets_driven (with_new ps (net_driven s)) ss

-- ---- processes of one assignment

-- whether an operand is of an object
abbrev pub is_of_object : flat.Expr → Bool
is_of_object e = is_some (object_of e)

-- what a continuous assignment watches
abbrev pub watched_by : ℕ → List Stmt × List Routine → List Watch
watched_by n p = map on_change (filter is_of_object (operands_of (body_from n p.1) 1 0 p.0))

-- a process of an assignment or a connection
abbrev pub process_of : Around → Place → ProcessKind → List Watch → RoutineId → Process
process_of ar at k ws r =
    record { at = at; path = ar.unit; kind = k; side = Active; program = None; body = r; watched = ws }

-- a process whose body is one assignment
abbrev pub assigning : Around → Place → ProcessKind → Code → Numbered Process
assigning ar at k c = record { objects = []; make = λ n. made n (c.make n) ((as_routine at c).make n) }
  where
    made : ℕ → List Stmt × List Routine → RoutineId × List Routine → Process × List Routine
    made n p q = (process_of ar at k (watched_by n p) q.0, q.1)

-- a process that writes its targets, and drives the nets among them
abbrev pub writing : Around → Place → ProcessKind → List Spot → Hoisted flat.Expr → Made
writing ar at k ss e =
    record {
      drives = nets_driven [] ss;
      make = λ before. assigning ar at k (single at (paired form.Assign (in_row (drivers ar before ss)) e));
    }

-- a process that copies a container
abbrev pub copying : Around → Place → ProcessKind → Typed → Hoisted flat.Expr → Made
copying ar at k t e = record { drives = []; make = λ before. assigning ar at k (single at (copied_into t e)) }

-- a process that assigns to a target
abbrev pub made_of : Around → Place → ProcessKind → List Spot → Hoisted flat.Expr → Made
made_of ar at k (s ∷ []) e = if is_container s.1.ty then copying ar at k s.1 e else writing ar at k (s ∷ []) e
made_of ar at k ss e = writing ar at k ss e

-- E16, E17: a target that gets a value again and again
abbrev pub continuous : Around → Place → ProcessKind → Checked (List Spot) → Place → Checked Typed → Checked Made
continuous ar at k target pv value =
    both target value ▷ (λ p. given (made_of ar at k p.0) (assigned ar (type_of_target p.0) pv p.1))

-- an `assign` (10.3.2)
abbrev pub assign_made : Around → tree_unit.AssignItem → Checked Made
assign_made ar a =
    continuous ar (place_of_lval a.target) process_kind.Assign (target Continuous ar a.target)
    (place_of a.value) (expr ar a.value)

-- a net declaration with a value counts as an `assign` (10.3.1)
abbrev pub net_made : Around → tree_unit.NetItem → Checked (List Made)
net_made ar x = of_value x.value
  where
    of_value : Option tree.Expr → Checked (List Made)
    of_value None = Good []
    of_value (Some e) =
        given (λ m. m ∷ [])
        (continuous ar x.name.at process_kind.Assign (target Continuous ar (tree.Lval.Post (root.Plain x.name) tree.NoSuffix))
        (place_of e) (expr ar e))

-- ---- what is connected to a port

-- what a port is connected to
pub data Linked : Type 0 where
  To_expr : Place → tree.Expr → Linked
  -- `.name` or `.*`, with the place of the name
  To_same : Place → Place → Linked

-- the connection that names a port, or stands at its place
abbrev pub linked_to : List ℕ → List (List ℕ) → ℕ → List Connection → Option Linked
linked_to x names k [] = None
linked_to x names k (tree_unit.Connection.Value e ∷ cs) = found (slice_get names k) (linked_to x names (k + 1) cs)
  where
    found : Option (List ℕ) → Option Linked → Option Linked
    found None rest = rest
    found (Some y) rest = if same_bytes x y then Some (To_expr (place_of e) e) else rest
linked_to x names k (tree_unit.Named at n ∷ cs) =
    if same_bytes x n.text then Some (To_same at n.at) else linked_to x names (k + 1) cs
linked_to x names k (tree_unit.Given at n e ∷ cs) =
    if same_bytes x n.text then option_map (To_expr at) e else linked_to x names (k + 1) cs
linked_to x names k (tree_unit.All at ∷ cs) = linked_to x names (k + 1) cs

-- the first `.*`
abbrev pub star_of : List Connection → Option Linked
star_of [] = None
star_of (tree_unit.All at ∷ cs) = Some (To_same at at)
star_of (c ∷ cs) = star_of cs

-- whether a port has a connection of its own
abbrev pub is_given : List ℕ → List (List ℕ) → ℕ → List Connection → Bool
is_given x names k [] = false
is_given x names k (tree_unit.Connection.Value e ∷ cs) = found (slice_get names k) || is_given x names (k + 1) cs
  where
    found : Option (List ℕ) → Bool
    found None = false
    found (Some y) = same_bytes x y
is_given x names k (tree_unit.Named at n ∷ cs) = same_bytes x n.text || is_given x names (k + 1) cs
is_given x names k (tree_unit.Given at n e ∷ cs) = same_bytes x n.text || is_given x names (k + 1) cs
is_given x names k (tree_unit.All at ∷ cs) = is_given x names (k + 1) cs

-- by its place or name, else by `.*`
abbrev pub linked_port : DesignElement → List Connection → PortInfo → Option Linked
linked_port u cs p =
    if is_given p.name.text (port_names u) 0 cs then linked_to p.name.text (port_names u) 0 cs else star_of cs

-- E8: a connection names no port, names one twice, or there are too many
abbrev pub connects : List (List ℕ) → List (List ℕ) → Place → Option (List ℕ) → Checked (Unit {0})
connects names seen at None = broken_at 8 at
connects names seen at (Some x) = rule 8 at (not (among x names) || among x seen)

-- the names that stand before
abbrev pub seen_with : Option (List ℕ) → List (List ℕ) → List (List ℕ)
seen_with None seen = seen
seen_with (Some x) seen = x ∷ seen

-- all connections of an instance
abbrev pub connections_fit : List (List ℕ) → List (List ℕ) → ℕ → List Connection → Checked (Unit {0})
connections_fit names seen k [] = fine
connections_fit names seen k (tree_unit.Connection.Value e ∷ cs) =
    connects names seen (place_of e) (slice_get names k)
    where_also connections_fit names (seen_with (slice_get names k) seen) (k + 1) cs
connections_fit names seen k (tree_unit.Named at n ∷ cs) =
    connects names seen at (Some n.text) where_also connections_fit names (n.text ∷ seen) (k + 1) cs
connections_fit names seen k (tree_unit.Given at n e ∷ cs) =
    connects names seen at (Some n.text) where_also connections_fit names (n.text ∷ seen) (k + 1) cs
connections_fit names seen k (tree_unit.All at ∷ cs) = connections_fit names seen (k + 1) cs

-- what the connections break by themselves
abbrev pub connections_stand : Around → List Connection → Checked (Unit {0})
connections_stand ar [] = fine
connections_stand ar (tree_unit.Connection.Value e ∷ cs) = only (expr ar e) where_also connections_stand ar cs
connections_stand ar (tree_unit.Given at n (Some e) ∷ cs) = only (expr ar e) where_also connections_stand ar cs
connections_stand ar (c ∷ cs) = connections_stand ar cs

-- ---- ports as they are written and read by connections

-- a port, from outside its unit
abbrev pub port_thing : Around → Place → Named → Typed
port_thing ar at (Variable p t) = object_typed ar at p t (A_variable p)
port_thing ar at (Net p t) = object_typed ar at p t (A_net p)
port_thing ar at (Input p true t) = object_typed ar at p t (A_net p)
port_thing ar at (Input p false t) = object_typed ar at p t (A_variable p)
port_thing ar at n = object_typed ar at [] Nothing A_value

-- what a port stands for in its unit
abbrev pub port_known : Inst → PortInfo → Checked Named
port_known c p = told (in_known 0 0 p.name.text c.group.scope.known)
  where
    told : Option (Checked Named) → Checked Named
    told None = broken_at 6 p.name.at
    told (Some n) = n

-- E9: `.name` or `.*` finds no object
abbrev pub is_object : Place → Named → Checked (Unit {0})
is_object at (Variable p t) = fine
is_object at (Net p t) = fine
is_object at (Input p n t) = fine
is_object at n = broken_at 9 at

-- the object of the same name
abbrev pub finds_object : Around → Place → Name → Checked (Unit {0})
finds_object ar at n = told (found ar n.text)
  where
    told : Option (Checked Named) → Checked (Unit {0})
    told None = broken_at 9 at
    told (Some (Good x)) = is_object at x
    told (Some (Broken f)) = Broken f where_also kind_stands ar 9 at is_object_kind n.text

-- an input gets the value of the expression
abbrev pub input_link : Around → Inst → PortInfo → Place → tree.Expr → Checked Made
input_link ar c p at e =
    continuous ar at process_kind.Port (given (λ n. (at, port_thing ar at n) ∷ []) (port_known c p)) (place_of e) (expr ar e)

-- E18: an output writes a target
abbrev pub output_link : Around → Inst → PortInfo → Place → tree.Expr → Option (Checked (List Spot)) → Checked Made
output_link ar c p at e None = broken_at 18 (place_of e) where_also only (expr ar e)
output_link ar c p at e (Some ss) =
    continuous ar at process_kind.Port ss (place_of e) (given (port_thing ar at) (port_known c p))

-- a connection by the direction of its port
abbrev pub link : Around → Inst → PortInfo → Place → tree.Expr → Checked Made
link ar c p at e = by p.is_input
  where
    by : Bool → Checked Made
    by true = input_link ar c p at e
    by false = output_link ar c p at e (target_in Continuous ar e)

-- a connection, if there is one
abbrev pub link_of : Around → Inst → PortInfo → Option Linked → Checked (List Made)
link_of ar c p None = Good []
link_of ar c p (Some (To_expr at e)) = given (λ m. m ∷ []) (link ar c p at e)
link_of ar c p (Some (To_same at an)) =
    finds_object ar at (record { at = an; text = p.name.text })
    ▷ (λ _. given (λ m. m ∷ []) (link ar c p at (plain_name (record { at = an; text = p.name.text }))))

-- the process of a port connection
abbrev pub port_link : Around → Inst → List Connection → PortInfo → Checked (List Made)
port_link ar c cs p = link_of ar c p (linked_port c.unit.element cs p)

-- the target that an output writes
abbrev pub output_target : PortInfo → Option Linked → Option tree.Expr
output_target p None = None
output_target p (Some (To_expr at e)) = Some e
output_target p (Some (To_same at an)) = Some (plain_name (record { at = an; text = p.name.text }))
