-- Classes of the flat design, and the rules on them (IEEE 1800-2017, 8).
use Rattle.std.specs.Prelude.{ℕ, Bool, true, false, not, ◌&&◌, ◌||◌, List, [], ◌∷◌, ◌++◌, Option, Some, None, if◌then◌else◌, map, flat_map, replicate, codes, option_map}
use Rattle.sv_value.specs.declared.number.RoutineId.{RoutineId}
use Rattle.sv_flat.specs.declared.object.Object.{Object}
use Rattle.sv_flat.specs.declared.object.ObjectKind.TheVariants as object_kind
use Rattle.sv_flat.specs.declared.object.Declared.{Declared}
use Rattle.sv_flat.specs.declared.class.Class.{Class}
use Rattle.sv_tree.specs.declared.word.Name.{Name}
use Rattle.sv_tree.specs.declared.word.Direction.{Direction}
use Rattle.sv_tree.specs.declared.word.Direction.TheVariants as direction
use Rattle.sv_tree.specs.Stmt.{Declarator}
use Rattle.sv_tree.specs.Classes as tree_class
use Rattle.sv_names.specs.declared.around.ClassInfo.{ClassInfo}
use Rattle.sv_names.specs.declared.checked.Checked.{Checked}
use Rattle.sv_names.specs.declared.checked.Checked.TheVariants.{Good, Broken}
use Rattle.sv_names.specs.declared.named.Known.{Known}
use Rattle.sv_names.specs.declared.named.Named.{Named}
use Rattle.sv_names.specs.declared.named.Named.TheVariants.{Property, StaticProperty, Subroutine}
use Rattle.sv_names.specs.declared.named.Callee.{Callee}
use Rattle.sv_names.specs.declared.named.Formal.{Formal}
use Rattle.sv_names.specs.Checked.{both, ◌▷◌, given, rule, fine, ◌where_also◌, each, all}
use Rattle.sv_names.specs.Types.{Path, same_type, same_flag, same_bytes, size_of_type, data_of}
use Rattle.sv_names.specs.Named.{Around, line_of, method_in, in_known}
use Rattle.sv_names.specs.Entries.{Entry, Declared as Declaration, A_class, An_announcement, twice, class_entries, is_constructor, pure_method}
use Rattle.sv_names.specs.Scopes.{known_stand}
use Rattle.sv_names.specs.Groups.{Head, base_rules, in_class}
use Rattle.sv_names.specs.Code.{object_at, home_of}
use Rattle.sv_names.specs.Assignments.{initial_of}
use Rattle.sv_names.specs.Blocks.{end_label}
use Rattle.sv_names.specs.Subroutines.{MadeSubroutine, made_subroutine, nothing_before, pure_stands, implied_constructor, written_constructor, constructor_path}

-- what a class gives to the flat design
pub record ClassParts : Type 0 where
  pub objects : List Object
  pub subroutines : List MadeSubroutine
  pub class : Class

-- ---- methods and constructors

-- a method that is no constructor
abbrev pub method_of : Around → ClassInfo → tree_class.ClassItem → Checked (List MadeSubroutine)
method_of ar k (tree_class.Method m) =
    if is_constructor m.routine.head then Good []
    else given (λ x. x ∷ []) (made_subroutine ar k.path (Some k.path) m m.routine.stmts nothing_before)
method_of ar k (tree_class.Pure m) = pure_stands ar k.path (Some k.path) (pure_method m.head) ▷ (λ u. Good [])
method_of ar k i = Good []

-- lists one after another
abbrev pub joined : {A : Type 0} → Checked (List (List A)) → Checked (List A)
joined c = given (flat_map (λ x. x)) c

-- the constructor that is written, or the implied one
abbrev pub constructor_of : Around → ClassInfo → (whole rest : List tree_class.ClassItem) → Checked MadeSubroutine
constructor_of ar k whole [] = implied_constructor ar k whole
constructor_of ar k whole (tree_class.Method m ∷ is) =
    if is_constructor m.routine.head then written_constructor ar k whole m
    else constructor_of ar k whole is
constructor_of ar k whole (i ∷ is) = constructor_of ar k whole is

-- ---- static properties

-- the object of a static property
abbrev pub static_object : Around → ClassInfo → Declarator → Checked (List Object)
static_object ar k x = of_known (in_known 0 0 x.name.text k.scope.known)
  where
    of_named : Named → Checked (List Object)
    of_named (StaticProperty c g p t) =
        given (λ i. object_at ar object_kind.Variable false true false x.name.at p t i ∷ [])
        (initial_of ar x.name.at (Good t) x.init)
    of_named n = Good []

    of_known : Option (Checked Named) → Checked (List Object)
    of_known None = Good []
    of_known (Some (Broken f)) = given (λ i. []) (initial_of ar x.name.at (Broken f) x.init)
    of_known (Some (Good n)) = of_named n

-- the objects of the static properties of an item
abbrev pub static_objects : Around → ClassInfo → tree_class.ClassItem → Checked (List Object)
static_objects ar k (tree_class.Property p) =
    if p.qualifiers.is_static then joined (each (static_object ar k) p.decl.names) else Good []
static_objects ar k i = Good []

-- ---- the class itself

-- the variables of an object for a property
abbrev pub property_entry : Around → Known → List Declared
property_entry ar k = of_value k.value
  where
    of_value : Checked Named → List Declared
    of_value (Good (Property c g n t)) = replicate (size_of_type t) (record { at = n.at; ty = data_of ar.numbers t })
    of_value v = []

-- those of the bases first
abbrev pub properties_of : Around → List ClassInfo → List Declared
properties_of ar [] = []
properties_of ar (k ∷ ks) = properties_of ar ks ++ flat_map (property_entry ar) k.scope.known

-- the method that stands in a slot; None where it is pure
abbrev pub method_number : Around → ClassInfo → List ℕ → Option RoutineId
method_number ar k x = of_method (method_in x (line_of ar.classes k.path))
  where
    of_method : Option Callee → Option RoutineId
    of_method (Some c) = if c.is_pure then None else Some (ar.numbers.subroutine c.path)
    of_method None = None

-- a class of the flat design
abbrev pub flat_class : Around → ClassInfo → Class
flat_class ar k =
    record {
      at = k.name.at;
      home = home_of ar;
      base = option_map ar.numbers.class k.base;
      properties = properties_of ar (line_of ar.classes k.path);
      methods = map (method_number ar k) k.slots;
      constructor = ar.numbers.subroutine (constructor_path k.path);
    }

-- ---- E34: an override differs in kind, arguments or result (8.20)

-- whether two arguments have one direction
abbrev pub same_direction : Direction → Direction → Bool
same_direction direction.Input direction.Input = true
same_direction direction.Output direction.Output = true
same_direction direction.Inout direction.Inout = true
same_direction d e = false

-- whether two lists of arguments agree
abbrev pub same_formals : List Formal → List Formal → Checked Bool
same_formals [] [] = Good true
same_formals (f ∷ fs) (g ∷ gs) =
    given (λ p. same_direction f.direction g.direction && same_type p.0.0 p.0.1 && p.1)
    (both (both f.ty g.ty) (same_formals fs gs))
same_formals fs gs = Good false

-- a method against the virtual one of its name in the base
abbrev pub overrides : Name → Callee → Callee → Checked (Unit {0})
overrides n c d =
    both (both c.result d.result) (same_formals c.formals d.formals)
    ▷ (λ p. rule 34 n.at
    (not (same_flag c.is_task d.is_task && same_flag c.is_static d.is_static && same_type p.0.0 p.0.1 && p.1)))

-- a member that overrides a virtual method
abbrev pub override_stands : Around → Option Path → Known → Checked (Unit {0})
override_stands ar None k = fine
override_stands ar (Some b) k = of_value k.value (method_in k.name.text (line_of ar.classes b))
  where
    of_base : Callee → Option Callee → Checked (Unit {0})
    of_base c (Some d) = if d.is_virtual then overrides k.name c d else fine
    of_base c None = fine

    of_value : Checked Named → Option Callee → Checked (Unit {0})
    of_value (Good (Subroutine c)) m = if same_bytes k.name.text (codes "new") then fine else of_base c m
    of_value v m = fine

-- E35: a class that is not virtual keeps a pure method
abbrev pub is_left_pure : Around → ClassInfo → List ℕ → Bool
is_left_pure ar k x = of_method (method_in x (line_of ar.classes k.path))
  where
    of_method : Option Callee → Bool
    of_method (Some c) = c.is_pure
    of_method None = false

-- whether one of the slots holds a pure method
abbrev pub some_left : Around → ClassInfo → List (List ℕ) → Bool
some_left ar k [] = false
some_left ar k (x ∷ xs) = is_left_pure ar k x || some_left ar k xs

-- ---- E58: a class that is announced is declared in the same scope

-- whether the scope declares a class of the name
abbrev pub is_declared : List ℕ → List Entry → Bool
is_declared x [] = false
is_declared x (e ∷ es) = (same_bytes x e.name.text && is_declaration e.what) || is_declared x es
  where
    is_declaration : Declaration → Bool
    is_declaration (A_class p) = true
    is_declaration d = false

-- an announcement in its scope
abbrev pub announced : List Entry → Entry → Checked (Unit {0})
announced es e = of_what e.what
  where
    of_what : Declaration → Checked (Unit {0})
    of_what An_announcement = rule 58 e.name.at (not (is_declared e.name.text es))
    of_what d = fine

-- all announcements of a scope
abbrev pub announcements_stand : List Entry → Checked (Unit {0})
announcements_stand es = all (announced es) es

-- ---- all of a class

-- the rules on a class by itself
abbrev pub class_stands : Around → ClassInfo → tree_class.Class → Checked (Unit {0})
class_stands ar k c =
    known_stand k.scope.known
    where_also twice (λ e. 5) [] (class_entries k.path c)
    where_also announcements_stand (class_entries k.path c)
    where_also end_label (Some k.name) c.label
    where_also all (override_stands ar k.base) k.scope.known
    where_also rule 35 k.name.at (not k.is_virtual && some_left ar k k.slots)

-- `ar` is the scope around the class
abbrev pub class_parts : Around → ClassInfo → tree_class.Class → Checked ClassParts
class_parts ar k c =
    let i : Around = in_class k.path ar in
    given (λ p. record { objects = p.0; subroutines = p.1.0 ∷ p.1.1; class = flat_class ar k })
    (both (joined (each (static_objects i k) c.items))
    (both (constructor_of i k c.items c.items) (joined (each (method_of i k) c.items))))
    where_also class_stands i k c

-- E6, E33: the names of the bases of classes
abbrev pub bases_stand : List Head → Checked (Unit {0})
bases_stand hs = all (base_rules hs) hs
