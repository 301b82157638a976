-- Modules and programs, their ports and parameters, and the walk of the instances (IEEE 1800-2017, 23 and 24.3).
use Rattle.std.specs.Prelude.{ℕ, zero, suc, ◌+◌, ◌^◌, Bool, true, false, not, List, [], ◌∷◌, ◌++◌, length, Option, Some, None, if◌then◌else◌, map, flat_map, filter, slice_get}
use Rattle.sv_value.specs.declared.place.Place.{Place}
use Rattle.sv_flat.specs.declared.design.Scale.{Scale}
use Rattle.sv_tree.specs.declared.word.Name.{Name}
use Rattle.sv_tree.specs.declared.word.PortDirection.{PortDirection}
use Rattle.sv_tree.specs.declared.word.PortDirection.TheVariants as direction
use Rattle.sv_tree.specs.declared.word.ParamWord.{ParamWord}
use Rattle.sv_tree.specs.declared.word.ParamWord.TheVariants.{Parameter, Localparam}
use Rattle.sv_tree.specs.declared.expr.Root.TheVariants as root
use Rattle.sv_tree.specs.Expr as tree
use Rattle.sv_tree.specs.Expr.{place_of}
use Rattle.sv_tree.specs.Types as tree_type
use Rattle.sv_tree.specs.Types.{ImpliedType}
use Rattle.sv_tree.specs.Units as tree_unit
use Rattle.sv_tree.specs.Units.{Connection, Param}
use Rattle.sv_tree.specs.Items as tree_item
use Rattle.sv_tree.specs.Items.{Item, DesignElement}
use Rattle.sv_tree.specs.Descriptions.{Description}
use Rattle.sv_names.specs.declared.around.Dollar.TheVariants.{NoDollar}
use Rattle.sv_names.specs.declared.around.Returns.TheVariants.{Outside}
use Rattle.sv_names.specs.declared.checked.Checked.{Checked}
use Rattle.sv_names.specs.Checked.{broken_at, fine, ◌where_also◌}
use Rattle.sv_names.specs.Types.{Path, Numbers, same_bytes, among}
use Rattle.sv_names.specs.Named.{Around}
use Rattle.sv_names.specs.Expressions.{expr}
use Rattle.sv_names.specs.Entries.{Entry, entry, Source, Own, Given, A_variable, A_net, A_port, A_parameter, A_type, A_class, An_announcement, A_subroutine, A_clocking, Another, plain_routine, items_in, items_in_implied, declarator_entries, blocks, is_automatic_life, twice}
use Rattle.sv_names.specs.Groups.{Group, Head, heads_of, settled_group, in_group}
use Rattle.sv_names.specs.Blocks.{scopes_made}
use Rattle.sv_names.specs.Classes.{announcements_stand, bases_stand}

-- ---- ports

-- a port, with what it takes from those before
pub record PortInfo : Type 0 where
  pub name : Name
  pub is_input : Bool
  pub is_wire : Bool
  pub type : ImpliedType
  -- whether a type is written here
  pub has_type : Bool

-- whether it is an input
abbrev pub is_input_word : PortDirection → Bool
is_input_word direction.Input = true
is_input_word direction.Output = false

-- a port without direction takes direction and type of the one before
abbrev pub ports_from : Bool → Bool → ImpliedType → List tree_unit.Port → List PortInfo
ports_from input wire t [] = []
ports_from input wire t (p ∷ ps) = taken p.direction (λ i w u. ports_from i w u ps)
  where
    taken : Option PortDirection → (Bool → Bool → ImpliedType → List PortInfo) → List PortInfo
    taken None rest =
        record { name = p.name; is_input = input; is_wire = wire; type = t; has_type = false } ∷ rest input wire t
    taken (Some d) rest =
        record { name = p.name; is_input = is_input_word d; is_wire = p.is_net; type = p.of; has_type = true }
        ∷ rest (is_input_word d) p.is_net p.of

-- the ports of a unit
abbrev pub ports_of : DesignElement → List PortInfo
ports_of u = ports_from true false tree_type.Unwritten u.ports

-- their names
abbrev pub port_names : DesignElement → List (List ℕ)
port_names u = map (λ p. p.name.text) (ports_of u)

-- ---- what a unit declares

-- the values that an instance gives to parameters
abbrev pub Givens : Type 0
Givens = List (List ℕ × Source)

-- the value that an instance gives, or another one
abbrev pub given_or : Source → List ℕ → Givens → Source
given_or own x [] = own
given_or own x (g ∷ gs) = if same_bytes x g.0 then g.1 else given_or own x gs

-- a `localparam` keeps its own value
abbrev pub param_source : ParamWord → tree.Expr → List ℕ → Givens → Source
param_source Parameter own x gs = given_or (Own own) x gs
param_source Localparam own x gs = Own own

-- parameters as declarations
abbrev pub param_entries : Givens → Param → List Entry
param_entries gs p =
    items_in_implied p.of
    ++ map (λ x. entry x.name (A_parameter p.of (param_source p.word x.value x.name.text gs))) p.names

-- what an item declares
abbrev pub item_entries : Path → Givens → Item → List Entry
item_entries p gs (tree_item.Decl d) = items_in d.of ++ declarator_entries A_variable d.of d.names
item_entries p gs (tree_item.Net n) = map (λ x. entry x.name (A_net n.sign n.range)) n.names
item_entries p gs (tree_item.Typedef t) = items_in t.of ++ entry t.name (A_type t.of) ∷ []
item_entries p gs (tree_item.Announce n) = entry n An_announcement ∷ []
item_entries p gs (tree_item.Class c) = entry c.name (A_class (p ++ c.name.text ∷ [])) ∷ []
item_entries p gs (tree_item.Param q) = param_entries gs q
item_entries p gs (tree_item.Routine r) = entry r.head.name (A_subroutine false None (plain_routine r)) ∷ []
item_entries p gs (tree_item.Instances x) = map (λ i. entry i.name Another) x.list
item_entries p gs (tree_item.Procedure q) = blocks q.body
item_entries p gs (tree_item.Clocking b) = entry b.name (A_clocking b.items) ∷ []
item_entries p gs _ = []

-- the parameters before the ports
abbrev pub params_of : DesignElement → List Param
params_of u = found u.params
  where
    found : Option (List Param) → List Param
    found None = []
    found (Some ps) = ps

-- the parameters of a body can be set only where there are none before the ports
abbrev pub body_givens : DesignElement → Givens → Givens
body_givens u gs = found u.params
  where
    found : Option (List Param) → Givens
    found None = gs
    found (Some ps) = []

-- a port as a declaration, with the items of its type
abbrev pub port_entry : PortInfo → List Entry
port_entry p =
    (if p.has_type then items_in_implied p.type else []) ++ entry p.name (A_port p.is_input p.is_wire p.type) ∷ []

-- all that a unit declares
abbrev pub unit_entries : Path → DesignElement → Givens → List Entry
unit_entries p u gs =
    flat_map (param_entries gs) (params_of u) ++ flat_map port_entry (ports_of u)
    ++ flat_map (item_entries p (body_givens u gs)) u.items

-- ---- modules and programs

-- a module or a program
pub record Definition : Type 0 where
  pub is_program : Bool
  pub element : DesignElement

-- its name
abbrev pub name_of : Definition → Name
name_of u = u.element.name

-- all modules and programs
abbrev pub definitions : List Description → List Definition
definitions [] = []
definitions (Description.Module e ∷ us) = record { is_program = false; element = e } ∷ definitions us
definitions (Description.Program e ∷ us) = record { is_program = true; element = e } ∷ definitions us
definitions (Description.Item i ∷ us) = definitions us

-- the first of a name
abbrev pub first_named : List ℕ → List Definition → Option Definition
first_named x [] = None
first_named x (u ∷ us) = if same_bytes x (name_of u).text then Some u else first_named x us

-- the first module or program of a name
abbrev pub definition_named : List ℕ → List Description → Option Definition
definition_named x us = first_named x (definitions us)

-- the items outside modules and programs
abbrev pub outside : List Description → List Item
outside [] = []
outside (Description.Item i ∷ us) = i ∷ outside us
outside (u ∷ us) = outside us

-- what a description declares
abbrev pub description_entries : Description → List Entry
description_entries (Description.Module e) = entry e.name Another ∷ []
description_entries (Description.Program e) = entry e.name Another ∷ []
description_entries (Description.Item i) = item_entries [] [] i

-- what the files declare
abbrev pub file_entries : List Description → List Entry
file_entries us = flat_map description_entries us

-- the unit that an item instantiates
abbrev pub used_names : Item → List (List ℕ)
used_names (tree_item.Instances x) = x.of.text ∷ []
used_names _ = []

-- the units that are instantiated
abbrev pub all_used : List Description → List (List ℕ)
all_used us = flat_map (λ u. flat_map used_names u.element.items) (definitions us)

-- only the first of two units of one name can be instantiated
abbrev pub first_of_name : List (List ℕ) → List Definition → List Definition
first_of_name seen [] = []
first_of_name seen (u ∷ us) =
    if among (name_of u).text seen then first_of_name seen us else u ∷ first_of_name ((name_of u).text ∷ seen) us

-- the units that are nowhere instantiated, or the one that is named
abbrev pub roots : List Description → Option (List ℕ) → List Definition
roots us None = first_of_name [] (filter (λ u. not (among (name_of u).text (all_used us))) (definitions us))
roots us (Some top) = found (definition_named top us)
  where
    found : Option Definition → List Definition
    found None = []
    found (Some u) = u ∷ []

-- the first place of the first file
abbrev pub first_place : Place
first_place = record { file = 0; line = 1; col = 1 }

-- E4: there is a root
abbrev pub some_root : List Definition → Checked (Unit {0})
some_root [] = broken_at 4 first_place
some_root (u ∷ us) = fine

-- ---- where something stands

-- before any scope
abbrev pub nowhere_around : Numbers → Scale → Around
nowhere_around ns s =
    record {
      numbers = ns;
      scale = s;
      scopes = [];
      classes = [];
      unit = [];
      is_program = false;
      subroutine = None;
      class = None;
      has_object = false;
      is_automatic = false;
      call_rule = None;
      may_not_wait = false;
      is_comb = false;
      clocked = None;
      dollar = NoDollar;
      is_loop = false;
      returns = Outside;
      default_clocking = None;
      is_initial = false;
      takes_events = false;
      is_printed_later = false;
      blocks = 0;
      up = 0;
      first = 0;
    }

-- ---- the walk of the instances

-- E5, E6, E33, E58: what the declarations of an instance break by their names
abbrev pub names_stand : List Entry → List Head → Checked (Unit {0})
names_stand es hs = twice (λ e. 5) [] es where_also announcements_stand es where_also bases_stand hs

-- an instance, with its settled scope
pub record Inst : Type 0 where
  pub path : Path
  pub unit : Definition
  pub at : Place
  -- the units that it stands in, itself among them
  pub chain : List (List ℕ)
  pub group : Group
  -- what its declarations break by their names
  pub stands : Checked (Unit {0})

-- what is met on the walk
pub data Walked : Type 0 where
  Enter : Inst → Walked
  -- an item, behind so many blocks of the unit
  Meet : Inst → (blocks : ℕ) → Item → Walked
  -- the port connections of an instance in another
  Connect : Inst → Inst → List Connection → Walked
  -- the instance that passes the limit
  Pass : Place → Walked

-- the names of the parameters of a body that an instance can give
abbrev pub body_params : Item → List (List ℕ)
body_params (tree_item.Param p) = of_word p.word
  where
    of_word : ParamWord → List (List ℕ)
    of_word Parameter = map (λ x. x.name.text) p.names
    of_word Localparam = []
body_params _ = []

-- the parameters that an instance can give
abbrev pub param_names : DesignElement → List (List ℕ)
param_names u = found u.params
  where
    found : Option (List Param) → List (List ℕ)
    found None = flat_map body_params u.items
    found (Some ps) = flat_map (λ p. map (λ x. x.name.text) p.names) ps

-- a name as an expression
abbrev pub plain_name : Name → tree.Expr
plain_name n = tree.Post (root.Plain n) tree.NoSuffix

-- the value that a connection gives to a parameter
abbrev pub value_given : Around → tree.Expr → Source
value_given ar e = Given (place_of e) (expr ar e)

-- the values that the connections give, by name; `k` is the place in the list
abbrev pub givens_from : Around → List (List ℕ) → ℕ → List Connection → Givens
givens_from ar names k [] = []
givens_from ar names k (tree_unit.Connection.Value e ∷ cs) = found (slice_get names k) (givens_from ar names (k + 1) cs)
  where
    found : Option (List ℕ) → Givens → Givens
    found None gs = gs
    found (Some x) gs = (x, value_given ar e) ∷ gs
givens_from ar names k (tree_unit.Named at n ∷ cs) =
    (n.text, value_given ar (plain_name n)) ∷ givens_from ar names (k + 1) cs
givens_from ar names k (tree_unit.Given at n None ∷ cs) = givens_from ar names (k + 1) cs
givens_from ar names k (tree_unit.Given at n (Some e) ∷ cs) = (n.text, value_given ar e) ∷ givens_from ar names (k + 1) cs
givens_from ar names k (tree_unit.All at ∷ cs) = givens_from ar names (k + 1) cs

-- the rest of a walk: from how many instances may yet come; None where it has ended
abbrev pub Walk : Type 0
Walk = ℕ → List Walked × Option ℕ

-- and what is walked after
abbrev pub with_rest : List Walked → List Walked × Option ℕ → List Walked × Option ℕ
with_rest ws p = (ws ++ p.0, p.1)

-- the rest of a walk that has not ended
abbrev pub go_on : List Walked × Option ℕ → Walk → List Walked × Option ℕ
go_on (ws, None) go = (ws, None)
go_on (ws, Some n) go = with_rest ws (go n)

-- one walk after another
abbrev pub and_then : Walk → Walk → Walk
and_then a b n = go_on (a n) b

-- a walk that meets nothing
abbrev pub stays : Walk
stays n = ([], Some n)

-- one thing, and then the rest
abbrev pub meets : Walked → Walk → Walk
meets w go n = with_rest (w ∷ []) (go n)

-- the walk ends at the instance that passes the limit
abbrev pub counted : Place → Walk → Walk
counted at go zero = (Pass at ∷ [], None)
counted at go (suc n) = go n

-- how many scopes an item makes in that of its unit
abbrev pub scopes_of_item : Item → ℕ
scopes_of_item (tree_item.Procedure p) = scopes_made p.body
scopes_of_item i = 0

module _ (units : List Description) (files : Around) where
  -- what stands around a unit
  abbrev pub around_unit : Definition → Path → Around
  around_unit u p =
      record files { unit = p; is_program = u.is_program; is_automatic = is_automatic_life false u.element.life }

  -- an instance with these declarations
  abbrev pub inst_with : Path → List (List ℕ) → Place → Definition → List Entry → List Head → Inst
  inst_with p chain at u es hs =
      record {
        path = p;
        unit = u;
        at = at;
        chain = (name_of u).text ∷ chain;
        group = settled_group (around_unit u p) p es hs;
        stands = names_stand es hs;
      }

  -- an instance of a unit
  abbrev pub inst_of : Path → List (List ℕ) → Place → Definition → Givens → Inst
  inst_of p chain at u gs =
      inst_with p chain at u (unit_entries p u.element gs)
      (heads_of p (unit_entries p u.element gs) (file_entries units) u.element.items)

  -- constants speak of no object, so the walk needs no numbers
  abbrev pub within_inst : Inst → Around
  within_inst i = in_group i.group (around_unit i.unit i.path)

  -- an instance in another
  abbrev pub child : Inst → Definition → List Connection → tree_unit.Instance → Inst
  child i u ps x =
      inst_of (i.path ++ x.name.text ∷ []) i.chain x.name.at u (givens_from (within_inst i) (param_names u.element) 0 ps)

  -- its connections, and then the instance itself
  abbrev pub enter_child : (Inst → Walk) → Inst → List Connection → Inst → Walk
  enter_child go i cs c = meets (Connect i c cs) (go c)

  -- the instances of one item
  abbrev pub children : (Inst → Walk) → Inst → Definition → List Connection → List tree_unit.Instance → Walk
  children go i u ps [] = stays
  children go i u ps (x ∷ xs) =
      and_then (counted x.name.at (λ n. enter_child go i x.connections (child i u ps x) n)) (children go i u ps xs)

  -- E2, E3: what has no unit, or contains itself, is not walked
  abbrev pub instances_walk : (Inst → Walk) → Inst → tree_unit.Instances → Option Definition → Walk
  instances_walk go i x None = stays
  instances_walk go i x (Some u) = if among x.of.text i.chain then stays else children go i u x.params x.list

  -- an item, with the instances in it
  abbrev pub item_walk : (Inst → Walk) → Inst → (blocks : ℕ) → Item → Walk
  item_walk go i b (tree_item.Instances x) =
      meets (Meet i b (tree_item.Instances x)) (instances_walk go i x (definition_named x.of.text units))
  item_walk go i b item = meets (Meet i b item) stays

  -- the items in source order
  abbrev pub items_walk : (Inst → Walk) → Inst → (blocks : ℕ) → List Item → Walk
  items_walk go i b [] = stays
  items_walk go i b (x ∷ xs) = and_then (item_walk go i b x) (items_walk go i (b + scopes_of_item x) xs)

  -- items in source order; at an instance its own items
  abbrev pub walk : ℕ → Inst → Walk
  walk zero i = stays
  walk (suc k) i = meets (Enter i) (items_walk (λ c. walk k c) i 0 i.unit.element.items)

  -- a root
  abbrev pub root_inst : Definition → Inst
  root_inst u = inst_of ((name_of u).text ∷ []) [] (name_of u).at u []

  -- the roots in source order
  abbrev pub roots_walk : ℕ → List Definition → Walk
  roots_walk k [] = stays
  roots_walk k (u ∷ us) = and_then (counted (name_of u).at (λ n. walk k (root_inst u) n)) (roots_walk k us)

  -- no chain of units is longer than the number of all
  abbrev pub walked : Option (List ℕ) → List Walked
  walked top = (roots_walk (length units + 1) (roots units top) (2 ^ 14)).0

-- what is seen outside units
abbrev pub file_around : Numbers → Scale → Group → Around
file_around ns s g = in_group g (nowhere_around ns s)

-- the classes outside units
abbrev pub file_heads : List Description → List Head
file_heads us = heads_of [] (file_entries us) [] (outside us)

-- the scope of the files
abbrev pub file_group : Numbers → Scale → List Description → Group
file_group ns s us = settled_group (nowhere_around ns s) [] (file_entries us) (file_heads us)
