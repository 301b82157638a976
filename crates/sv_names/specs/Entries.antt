-- What scopes declare, as it is written (IEEE 1800-2017, 6, 8.4 and 23.9).
use Rattle.std.specs.Prelude.{ℕ, ◌+◌, Bool, true, false, not, ◌&&◌, ◌||◌, List, [], ◌∷◌, ◌++◌, Option, Some, None, if◌then◌else◌, flat_map, codes}
use Rattle.sv_value.specs.declared.place.Place.{Place}
use Rattle.sv_tree.specs.declared.word.Name.{Name}
use Rattle.sv_tree.specs.declared.word.Life.{Life}
use Rattle.sv_tree.specs.declared.word.Life.TheVariants as life
use Rattle.sv_tree.specs.declared.word.Sign.{Sign}
use Rattle.sv_tree.specs.declared.word.Direction.{Direction}
use Rattle.sv_tree.specs.declared.word.Direction.TheVariants as direction
use Rattle.sv_tree.specs.Expr as tree
use Rattle.sv_tree.specs.Types as tree_type
use Rattle.sv_tree.specs.Types.{WrittenType, ImpliedType, Range, EnumItem}
use Rattle.sv_tree.specs.Stmt as tree_stmt
use Rattle.sv_tree.specs.Stmt.{Decl, Declarator, Dimension}
use Rattle.sv_tree.specs.Units as tree_unit
use Rattle.sv_tree.specs.Classes as tree_class
use Rattle.sv_tree.specs.declared.class.Qualifiers.{Qualifiers}
use Rattle.sv_tree.specs.Units.{Head, Argument, Method}
use Rattle.sv_names.specs.declared.checked.Checked.{Checked}
use Rattle.sv_names.specs.declared.ty.Ty.{Ty}
use Rattle.sv_names.specs.declared.typed.Typed.{Typed}
use Rattle.sv_names.specs.declared.named.Protection.{Protection}
use Rattle.sv_names.specs.declared.named.Protection.TheVariants.{Open, Local as Local_to_class, Protected}
use Rattle.sv_names.specs.declared.named.Kind.{Kind}
use Rattle.sv_names.specs.declared.named.Kind.TheVariants.{Object as Of_object, Parameter as Of_parameter, Item as Of_item, TypeName as Of_type, Subroutine as Of_subroutine, Another as Of_another}
use Rattle.sv_names.specs.Checked.{rule, fine, ◌where_also◌}
use Rattle.sv_names.specs.Types.{Path, same_bytes}

-- the value of a parameter: its own, or one that an instance gives
pub data Source : Type 0 where
  Own : tree.Expr → Source
  Given : (at : Place) → Checked Typed → Source

-- what a declaration declares
pub data Declared : Type 0 where
  A_variable : WrittenType → Option Dimension → Declared
  -- a variable of an activation
  A_local : WrittenType → Option Dimension → Declared
  An_argument : ImpliedType → (is_automatic : Bool) → Declared
  -- a variable whose type is not written
  A_given : Checked Ty → Declared
  A_net : Sign → Option Range → Declared
  A_port : (is_input : Bool) → (is_wire : Bool) → ImpliedType → Declared
  A_property : (class : Path) → Protection → WrittenType → Option Dimension → Declared
  A_static_property : (class : Path) → Protection → WrittenType → Option Dimension → Declared
  A_parameter : ImpliedType → Source → Declared
  A_type : WrittenType → Declared
  -- an item of an enum: so many after the one with this value, or after 0
  An_item : (enum : WrittenType) → (value : Option tree.Expr) → (steps : ℕ) → Declared
  A_class : Path → Declared
  -- `typedef class`
  An_announcement : Declared
  A_subroutine : (is_pure : Bool) → (class : Option Path) → Method → Declared
  A_clocking : List tree_unit.ClockingItem → Declared
  -- the object of a method
  The_object_of : Path → Declared
  -- a unit, an instance or a block
  Another : Declared

-- the first token of a type
abbrev pub place_of_type : WrittenType → Place
place_of_type (tree_type.WrittenType.Vector at w s r) = at
place_of_type (tree_type.Atom at w s) = at
place_of_type (tree_type.Text at) = at
place_of_type (tree_type.Event at) = at
place_of_type (tree_type.Semaphore at) = at
place_of_type (tree_type.Mailbox at) = at
place_of_type (tree_type.MailboxOf at t) = at
place_of_type (tree_type.Named n) = n.at
place_of_type (tree_type.Enum at is) = at
place_of_type (tree_type.EnumOf at b is) = at

-- the kind of what is declared
abbrev pub kind_of : Declared → Kind
kind_of (A_parameter i s) = Of_parameter
kind_of (An_item w v n) = Of_item (place_of_type w)
kind_of (A_type w) = Of_type
kind_of (A_class p) = Of_type
kind_of An_announcement = Of_type
kind_of (A_subroutine pure class m) = Of_subroutine
kind_of (A_clocking is) = Of_another
kind_of Another = Of_another
kind_of d = Of_object

-- a declared name
pub record Entry : Type 0 where
  pub name : Name
  pub what : Declared

-- a name with what it is
abbrev pub entry : Name → Declared → Entry
entry n d = record { name = n; what = d }

-- ---- E5, E1: a scope declares a name twice

-- how a name clashes with another one
pub data Sort : Type 0 where
  Announces : Sort
  Is_class : Sort
  Is_other : Sort

-- the sort of a declaration
abbrev pub sort_of : Declared → Sort
sort_of An_announcement = Announces
sort_of (A_class p) = Is_class
sort_of d = Is_other

-- a class can be announced before it is declared, and after
abbrev pub agree : Sort → Sort → Bool
agree Announces Is_other = false
agree Announces s = true
agree Is_class Announces = true
agree s t = false

-- whether a name has been declared before
abbrev pub clashes : List ℕ → Sort → List (List ℕ × Sort) → Bool
clashes x s [] = false
clashes x s (e ∷ es) = (same_bytes x e.0 && not (agree e.1 s)) || clashes x s es

-- the second of two declarations of a name
abbrev pub twice : (Entry → ℕ) → List (List ℕ × Sort) → List Entry → Checked (Unit {0})
twice n seen [] = fine
twice n seen (e ∷ es) =
    rule (n e) e.name.at (clashes e.name.text (sort_of e.what) seen)
    where_also twice n ((e.name.text, sort_of e.what) ∷ seen) es

-- ---- the items of the enums in a type

-- the items of an enum, each after the one before
abbrev pub items_from : WrittenType → Option tree.Expr → ℕ → List EnumItem → List Entry
items_from w start steps [] = []
items_from w start steps (i ∷ is) = next i.value (λ e n. items_from w e n is)
  where
    next : Option tree.Expr → (Option tree.Expr → ℕ → List Entry) → List Entry
    next None further = entry i.name (An_item w start steps) ∷ further start (steps + 1)
    next (Some e) further = entry i.name (An_item w (Some e) 0) ∷ further (Some e) 1

-- the items of all enums in a type
abbrev pub items_in : WrittenType → List Entry
items_in (tree_type.Enum at is) = items_from (tree_type.Enum at is) None 0 is
items_in (tree_type.EnumOf at base is) = items_in base ++ items_from (tree_type.EnumOf at base is) None 0 is
items_in (tree_type.MailboxOf at w) = items_in w
items_in _ = []

-- the items in a type that may be left out
abbrev pub items_in_implied : ImpliedType → List Entry
items_in_implied (tree_type.Written w) = items_in w
items_in_implied _ = []

-- the items in a dimension
abbrev pub items_in_dimension : Option Dimension → List Entry
items_in_dimension (Some (tree_stmt.Key at w)) = items_in w
items_in_dimension d = []

-- ---- variables

-- the names of one declaration
abbrev pub declarator_entries : (WrittenType → Option Dimension → Declared) → WrittenType → List Declarator → List Entry
declarator_entries f w [] = []
declarator_entries f w (x ∷ xs) =
    entry x.name (f w x.dimension) ∷ items_in_dimension x.dimension ++ declarator_entries f w xs

-- whether a variable or subroutine is automatic
abbrev pub is_automatic_life : Bool → Life → Bool
is_automatic_life usual life.Automatic = true
is_automatic_life usual life.Static = false
is_automatic_life usual life.Unwritten = usual

-- a variable by its life
abbrev pub variable_kind : Bool → WrittenType → Option Dimension → Declared
variable_kind true w d = A_local w d
variable_kind false w d = A_variable w d

-- the declarations of a block or subroutine
abbrev pub decl_entries : (is_automatic : Bool) → Decl → List Entry
decl_entries auto d = items_in d.of ++ declarator_entries (variable_kind (is_automatic_life auto d.life)) d.of d.names

-- ---- arguments

-- one without direction takes that of the one before; one without both takes its type too
pub record Taken : Type 0 where
  pub direction : Direction
  pub type : ImpliedType
  pub argument : Argument

-- the direction that is written, or the one before
abbrev pub direction_or : Direction → Option Direction → Direction
direction_or d None = d
direction_or d (Some e) = e

-- whether a direction is written
abbrev pub has_direction : Option Direction → Bool
has_direction None = false
has_direction (Some d) = true

-- the type that is written, or the one before
abbrev pub type_or : Bool → ImpliedType → ImpliedType → ImpliedType
type_or true before tree_type.Unwritten = tree_type.Unwritten
type_or false before tree_type.Unwritten = before
type_or b before t = t

-- the arguments after one with this direction and type
abbrev pub taken_from : Direction → ImpliedType → List Argument → List Taken
taken_from d t [] = []
taken_from d t (a ∷ as') =
    record { direction = direction_or d a.direction; type = type_or (has_direction a.direction) t a.of; argument = a }
    ∷ taken_from (direction_or d a.direction) (type_or (has_direction a.direction) t a.of) as'

-- the arguments of a head
abbrev pub taken : Head → List Taken
taken h = taken_from direction.Input tree_type.Unwritten h.arguments

-- the arguments as declarations
abbrev pub argument_entries : Bool → List Taken → List Entry
argument_entries auto [] = []
argument_entries auto (a ∷ as') =
    items_in_implied a.argument.of ++ entry a.argument.name (An_argument a.type auto) ∷ argument_entries auto as'

-- ---- the named blocks of statements

-- the name of a block, or its label
abbrev pub block_named : Option Name → Option Name → List Entry
block_named (Some n) label = entry n Another ∷ []
block_named None (Some n) = entry n Another ∷ []
block_named None None = []

abbrev mutual
  -- those of a statement
  pub blocks : tree_stmt.Stmt → List Entry
  blocks (tree_stmt.Statement at label b) = blocks_in label b

  -- those of the items of a `case`
  pub blocks_of_items : tree_stmt.CaseItems → List Entry
  blocks_of_items tree_stmt.NoCaseItem = []
  blocks_of_items (tree_stmt.Labels es x rest) = blocks x ++ blocks_of_items rest
  blocks_of_items (tree_stmt.Default x rest) = blocks x ++ blocks_of_items rest

  -- those of statements
  pub blocks_of : tree_stmt.Stmts → List Entry
  blocks_of tree_stmt.NoStmt = []
  blocks_of (tree_stmt.AndStmt x xs) = blocks x ++ blocks_of xs

  -- those that the scope of the statement declares
  pub blocks_in : Option Name → tree_stmt.Body → List Entry
  blocks_in label (tree_stmt.Block n ds xs e) = block_named n label
  blocks_in label (tree_stmt.Fork n ds xs j e) = block_named n label
  blocks_in label (tree_stmt.If e x) = blocks x
  blocks_in label (tree_stmt.IfElse e x y) = blocks x ++ blocks y
  blocks_in label (tree_stmt.Case w e is) = blocks_of_items is
  blocks_in label (tree_stmt.For (tree_stmt.ForInit.Assign l v) e s x) = blocks x
  blocks_in label (tree_stmt.While e x) = blocks x
  blocks_in label (tree_stmt.Do x e) = blocks x
  blocks_in label (tree_stmt.Repeat e x) = blocks x
  blocks_in label (tree_stmt.Forever x) = blocks x
  blocks_in label (tree_stmt.After d x) = blocks x
  blocks_in label (tree_stmt.On e x) = blocks x
  blocks_in label (tree_stmt.Cycles p e x) = blocks x
  blocks_in label (tree_stmt.Wait p e x) = blocks x
  blocks_in _ _ = []

-- ---- subroutines

-- the name that stands for the object
abbrev pub this_name : Place → Name
this_name at = record { at = at; text = codes "this" }

-- whether a name has this text
abbrev pub is_text_of : Name → List ℕ → Bool
is_text_of n x = same_bytes n.text x

-- whether a method is `new`
abbrev pub is_constructor : Head → Bool
is_constructor h = is_text_of h.name (codes "new")

-- no word stands before an item
abbrev pub no_qualifiers : Qualifiers
no_qualifiers = record { is_local = false; is_protected = false; is_static = false; is_virtual = false }

-- a subroutine of a unit or a file, as a method without such words
abbrev pub plain_routine : tree_unit.Routine → Method
plain_routine r = record { qualifiers = no_qualifiers; routine = r }

-- a pure method is virtual, and has a head alone
abbrev pub pure_method : Head → Method
pure_method h =
    record {
      qualifiers = record no_qualifiers { is_virtual = true };
      routine = record { head = h; decls = []; stmts = tree_stmt.NoStmt; label = None };
    }

-- whether a method belongs to the class alone
abbrev pub is_static_method : Method → Bool
is_static_method m = m.qualifiers.is_static && not (is_constructor m.routine.head)

-- the object of a method that is not static
abbrev pub object_entry : Bool → Head → Option Path → List Entry
object_entry static h None = []
object_entry static h (Some k) = if static then [] else entry (this_name h.name.at) (The_object_of k) ∷ []

-- whether it is a task
abbrev pub is_task : Head → Bool
is_task h = of_returns h.returns
  where
    of_returns : tree_unit.Returns → Bool
    of_returns tree_unit.Task = true
    of_returns r = false

-- the type of the result; a task and a void function have none that is written
abbrev pub result_type : Head → ImpliedType
result_type h = of_returns h.returns
  where
    of_returns : tree_unit.Returns → ImpliedType
    of_returns (tree_unit.Returns.Value t) = t
    of_returns r = tree_type.Unwritten

-- a function has its own name as its result variable
abbrev pub has_result : Head → Bool
has_result h = of_returns h.returns
  where
    of_returns : tree_unit.Returns → Bool
    of_returns (tree_unit.Returns.Value t) = not (is_constructor h)
    of_returns r = false

-- methods are automatic
abbrev pub subroutine_is_automatic : Bool → Option Path → Head → Bool
subroutine_is_automatic usual None h = is_automatic_life usual h.life
subroutine_is_automatic usual (Some k) h = true

-- what the scope of a subroutine declares: the object, the arguments, the variables, the blocks
abbrev pub subroutine_entries : (usual : Bool) → Option Path → Method → List Entry
subroutine_entries usual k m =
    let auto : Bool = subroutine_is_automatic usual k m.routine.head in
    object_entry (is_static_method m) m.routine.head k ++ items_in_implied (result_type m.routine.head)
    ++ argument_entries auto (taken m.routine.head) ++ flat_map (decl_entries auto) m.routine.decls ++ blocks_of m.routine.stmts

-- ---- classes

-- who may name a member
abbrev pub protection_of : Qualifiers → Protection
protection_of q = if q.is_local then Local_to_class else (if q.is_protected then Protected else Open)

-- a property of each object, or of the class
abbrev pub property_kind : Path → Qualifiers → WrittenType → Option Dimension → Declared
property_kind k q w d = if q.is_static then A_static_property k (protection_of q) w d else A_property k (protection_of q) w d

-- what an item of a class declares
abbrev pub class_item_entries : Path → tree_class.ClassItem → List Entry
class_item_entries k (tree_class.Property p) =
    items_in p.decl.of ++ declarator_entries (property_kind k p.qualifiers) p.decl.of p.decl.names
class_item_entries k (tree_class.Method m) = entry m.routine.head.name (A_subroutine false (Some k) m) ∷ []
class_item_entries k (tree_class.Pure m) = entry m.head.name (A_subroutine true (Some k) (pure_method m.head)) ∷ []
class_item_entries k (tree_class.Typedef t) = items_in t.of ++ entry t.name (A_type t.of) ∷ []
class_item_entries k (tree_class.Announce n) = entry n An_announcement ∷ []
class_item_entries k tree_class.Null = []

-- what a class declares itself
abbrev pub class_entries : Path → tree_class.Class → List Entry
class_entries k c = flat_map (class_item_entries k) c.items
