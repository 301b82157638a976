-- The scopes of blocks, loops and forks, with their variables (IEEE 1800-2017, 6.21, 9.3 and 12.7).
use Rattle.std.specs.Prelude.{ℕ, suc, ◌+◌, Bool, true, false, not, List, [], ◌∷◌, ◌++◌, Option, Some, None, if◌then◌else◌}
use Rattle.sv_value.specs.declared.place.Place.{Place}
use Rattle.sv_flat.specs.declared.object.Object.{Object}
use Rattle.sv_flat.specs.declared.object.ObjectKind.TheVariants as object_kind
use Rattle.sv_flat.specs.declared.object.Initial.{Initial}
use Rattle.sv_tree.specs.declared.word.Name.{Name}
use Rattle.sv_tree.specs.declared.word.Life.{Life}
use Rattle.sv_tree.specs.declared.word.Life.TheVariants as life
use Rattle.sv_tree.specs.Stmt as tree_stmt
use Rattle.sv_tree.specs.Stmt.{Decl, Declarator, Init}
use Rattle.sv_names.specs.declared.checked.Checked.{Checked}
use Rattle.sv_names.specs.declared.checked.Checked.TheVariants.{Good}
use Rattle.sv_names.specs.declared.ty.Ty.{Ty}
use Rattle.sv_names.specs.declared.ty.Ty.TheVariants.{Nothing}
use Rattle.sv_names.specs.declared.typed.Typed.{Typed}
use Rattle.sv_names.specs.declared.scope.Scope.{Scope}
use Rattle.sv_names.specs.declared.named.Named.{Named}
use Rattle.sv_names.specs.declared.named.Named.TheVariants.{Variable, Local}
use Rattle.sv_names.specs.Checked.{both, ◌▷◌, given, broken_at, rule, fine, ◌where_also◌}
use Rattle.sv_names.specs.Types.{Path, same_bytes, is_fixed}
use Rattle.sv_names.specs.Named.{Around, found, raised, further}
use Rattle.sv_names.specs.Things.{variable_typed}
use Rattle.sv_names.specs.Targets.{Spot}
use Rattle.sv_names.specs.Entries.{Entry, twice, is_automatic_life}
use Rattle.sv_names.specs.Scopes.{settled_scope, makes_activation, known_stand}
use Rattle.sv_names.specs.Code.{Code, empty, ◌>>◌, single, with_objects, object_at, decimal}
use Rattle.sv_names.specs.Assignments.{assignment, initial_of, place_of_init}

-- ---- paths and scopes

abbrev mutual
  -- how many scopes a statement makes in the scope that it stands in
  pub scopes_made : tree_stmt.Stmt → ℕ
  scopes_made (tree_stmt.Statement at label b) = scopes_in b

  -- the same of the items of a `case`
  pub scopes_of_items : tree_stmt.CaseItems → ℕ
  scopes_of_items tree_stmt.NoCaseItem = 0
  scopes_of_items (tree_stmt.Labels es x rest) = scopes_made x + scopes_of_items rest
  scopes_of_items (tree_stmt.Default x rest) = scopes_made x + scopes_of_items rest

  -- the same of a statement without its label
  pub scopes_in : tree_stmt.Body → ℕ
  scopes_in (tree_stmt.Block n ds xs e) = 1
  scopes_in (tree_stmt.Fork n ds xs j e) = 1
  scopes_in (tree_stmt.For (tree_stmt.Declare w n v) e s x) = 1
  scopes_in (tree_stmt.For (tree_stmt.ForInit.Assign l v) e s x) = scopes_made x
  scopes_in (tree_stmt.Foreach a i x) = 1
  scopes_in (tree_stmt.If e x) = scopes_made x
  scopes_in (tree_stmt.IfElse e x y) = scopes_made x + scopes_made y
  scopes_in (tree_stmt.Case w e is) = scopes_of_items is
  scopes_in (tree_stmt.While e x) = scopes_made x
  scopes_in (tree_stmt.Do x e) = scopes_made x
  scopes_in (tree_stmt.Repeat e x) = scopes_made x
  scopes_in (tree_stmt.Forever x) = scopes_made x
  scopes_in (tree_stmt.After d x) = scopes_made x
  scopes_in (tree_stmt.On e x) = scopes_made x
  scopes_in (tree_stmt.Cycles p e x) = scopes_made x
  scopes_in (tree_stmt.Wait p e x) = scopes_made x
  scopes_in b = 0

-- further on in the same scope
abbrev pub after_scopes : ℕ → Around → Around
after_scopes n ar = record ar { blocks = further ar.blocks n }

-- the name of a block, or its label
abbrev pub first_name : Option Name → Option Name → Option Name
first_name None label = label
first_name (Some n) label = Some n

-- the path of the nearest scope
abbrev pub own_path : Around → Path
own_path ar = of_scopes ar.scopes
  where
    of_scopes : List Scope → Path
    of_scopes [] = []
    of_scopes (s ∷ ss) = s.path

-- a scope without a name is named by its number among those of the scope around it
abbrev pub inner_path : Around → Option Name → Path
inner_path ar None = own_path ar ++ decimal (suc ar.blocks) ∷ []
inner_path ar (Some n) = own_path ar ++ n.text ∷ []

-- the settled scope of a block, a fork or a loop
abbrev pub inner_scope : Around → Option Name → List Entry → Scope
inner_scope ar n es = settled_scope ar (inner_path ar n) None (makes_activation es) es

-- in a scope of its own
abbrev pub inside : Scope → Around → Around
inside s ar = record ar { scopes = s ∷ ar.scopes; blocks = 0 }

-- E5, and what the declarations break
abbrev pub scope_stands : Scope → List Entry → Checked (Unit {0})
scope_stands s es = twice (λ e. 5) [] es where_also known_stand s.known

-- E5: an end label repeats the name
abbrev pub end_label : Option Name → Option Name → Checked (Unit {0})
end_label n None = fine
end_label None (Some e) = broken_at 5 e.at
end_label (Some n) (Some e) = rule 5 e.at (not (same_bytes n.text e.text))

-- ---- initializers

-- what a declaration of the nearest scope stands for
abbrev pub declared_variable : Around → Name → Checked Named
declared_variable ar n = told (found ar n.text)
  where
    told : Option (Checked Named) → Checked Named
    told None = broken_at 6 n.at
    told (Some c) = c

-- E42: no fixed array has an initializer
abbrev pub variable_spot : Around → Place → Named → Checked (List Spot)
variable_spot ar at n = of_typed (variable_typed ar at n)
  where
    of_typed : Option Typed → Checked (List Spot)
    of_typed None = broken_at 7 at
    of_typed (Some t) = if is_fixed t.ty then broken_at 42 at else Good ((at, t) ∷ [])

-- of a variable of the activation: an assignment, whose place is the name
abbrev pub assigned_first : Around → Name → Init → Checked Code
assigned_first ar n i =
    given (single n.at) (raised ar (λ s. assignment s (declared_variable s n ▷ variable_spot s n.at) None i))

-- the object of a static variable
abbrev pub object_of : Around → Name → Named → Option Initial → List Object
object_of ar n (Variable p t) i = object_at ar object_kind.Variable false false false n.at p t i ∷ []
object_of ar n x i = []

-- the type that a variable has
abbrev pub type_of_variable : Named → Checked Ty
type_of_variable (Variable p t) = Good t
type_of_variable (Local u p t) = Good t
type_of_variable n = Good Nothing

-- an object with its initial value, and no statement
abbrev pub static_variable : Around → Name → Checked Named → Option Init → Checked Code
static_variable ar n v i =
    given (λ p. with_objects (object_of ar n p.0 p.1) empty) (both v (initial_of ar n.at (v ▷ type_of_variable) i))

-- whether `static` is written
abbrev pub is_static_word : Life → Bool
is_static_word life.Static = true
is_static_word l = false

-- E41: an initializer of a static variable needs the word
abbrev pub word_stands : Life → Option Init → Checked (Unit {0})
word_stands l None = fine
word_stands l (Some i) = rule 41 (place_of_init i) (not (is_static_word l))

-- the first assignment of a variable of the activation, if it has one
abbrev pub local_variable : Around → Name → Option Init → Checked Code
local_variable ar n None = Good empty
local_variable ar n (Some i) = assigned_first ar n i

-- one declared variable, by its life
abbrev pub declarator_code : Around → Life → Declarator → Checked Code
declarator_code ar l x = by (is_automatic_life ar.is_automatic l)
  where
    by : Bool → Checked Code
    by true = local_variable ar x.name x.init
    by false = static_variable ar x.name (declared_variable ar x.name) x.init where_also word_stands l x.init

-- one after another; each can break a rule
abbrev pub in_sequence : Checked Code → Checked Code → Checked Code
in_sequence a b = given (λ p. p.0 >> p.1) (both a b)

-- the variables of one declaration
abbrev pub declarators_code : Around → Life → List Declarator → Checked Code
declarators_code ar l [] = Good empty
declarators_code ar l (x ∷ xs) = in_sequence (declarator_code ar l x) (declarators_code ar l xs)

-- the objects of the static variables, and the assignments to the others, in order
abbrev pub decls_code : Around → List Decl → Checked Code
decls_code ar [] = Good empty
decls_code ar (d ∷ ds) = in_sequence (declarators_code ar d.life d.names) (decls_code ar ds)
