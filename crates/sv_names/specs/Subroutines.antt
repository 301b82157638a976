-- Subroutines of the flat design: tasks, functions, methods and constructors (IEEE 1800-2017, 8.7, 8.15 and 13).
use Rattle.std.specs.Prelude.{Bool, true, false, not, ◌||◌, List, [], ◌∷◌, ◌++◌, Option, Some, None, is_some, if◌then◌else◌, codes}
use Rattle.sv_value.specs.declared.place.Place.{Place}
use Rattle.sv_flat.specs.declared.object.Object.{Object}
use Rattle.sv_flat.specs.declared.object.ObjectKind.TheVariants as object_kind
use Rattle.sv_flat.specs.declared.class.Routine.{Routine}
use Rattle.sv_flat.specs.declared.class.Subroutine.{Subroutine}
use Rattle.sv_flat.specs.declared.class.Formal.{Formal}
use Rattle.sv_flat.specs.declared.class.Variable.TheVariants as variable
use Rattle.sv_flat.specs.declared.class.Direction.{Direction}
use Rattle.sv_flat.specs.declared.class.Direction.TheVariants as way
use Rattle.sv_flat.specs.declared.call.Argument.{Argument}
use Rattle.sv_flat.specs.declared.stmt.Form.{Form}
use Rattle.sv_flat.specs.declared.stmt.Form.TheVariants as form
use Rattle.sv_flat.specs.declared.call.CallForm.TheVariants as call
use Rattle.sv_tree.specs.declared.word.Name.{Name}
use Rattle.sv_tree.specs.declared.word.Direction.{Direction as WrittenDirection}
use Rattle.sv_tree.specs.declared.word.Direction.TheVariants as direction
use Rattle.sv_tree.specs.Expr as tree
use Rattle.sv_tree.specs.Stmt as tree_stmt
use Rattle.sv_tree.specs.Classes as tree_class
use Rattle.sv_tree.specs.Units.{Head, Method}
use Rattle.sv_names.specs.declared.around.ClassInfo.{ClassInfo}
use Rattle.sv_names.specs.declared.around.Returns.{Returns}
use Rattle.sv_names.specs.declared.around.Returns.TheVariants.{NoValue, SomeValue}
use Rattle.sv_names.specs.declared.checked.Checked.{Checked}
use Rattle.sv_names.specs.declared.checked.Checked.TheVariants.{Good}
use Rattle.sv_names.specs.declared.ty.Ty.TheVariants.{Class}
use Rattle.sv_names.specs.declared.hoisted.Hoisted.{Hoisted}
use Rattle.sv_names.specs.declared.typed.Typed.{Typed}
use Rattle.sv_names.specs.declared.scope.Scope.{Scope}
use Rattle.sv_names.specs.declared.named.Known.{Known}
use Rattle.sv_names.specs.declared.named.Kind.TheVariants.{Object as Of_object}
use Rattle.sv_names.specs.declared.named.Named.{Named}
use Rattle.sv_names.specs.declared.named.Named.TheVariants.{Variable, Local, Itself, Property, Subroutine as A_subroutine}
use Rattle.sv_names.specs.declared.named.Callee.{Callee}
use Rattle.sv_names.specs.declared.named.Formal.{Formal as FormalArgument}
use Rattle.sv_names.specs.Checked.{both, ◌▷◌, given, broken_at, ◌where_also◌}
use Rattle.sv_names.specs.Types.{Path, data_of, is_fixed}
use Rattle.sv_names.specs.Hoisted.{mapped, in_row}
use Rattle.sv_names.specs.Named.{Around, class_in, in_known, raised}
use Rattle.sv_names.specs.Targets.{Spot}
use Rattle.sv_names.specs.declared.argument.Arg.{Arg}
use Rattle.sv_names.specs.Arguments.{values_stand}
use Rattle.sv_names.specs.Calls.{as_input, usual_value}
use Rattle.sv_names.specs.Things.{this_typed, field_typed}
use Rattle.sv_names.specs.Expressions.{actual_args}
use Rattle.sv_names.specs.Entries.{Taken, taken, is_task, has_result, subroutine_is_automatic, twice, this_name}
use Rattle.sv_names.specs.Declarations.{result_of_life}
use Rattle.sv_names.specs.Scopes.{callee_stands, known_stand, scope_of, callee_within, all_entries, subroutine_scope}
use Rattle.sv_names.specs.Code.{Numbered, Code, changed, empty, single, locals_of, with_objects, home_of, object_at, decimal}
use Rattle.sv_names.specs.Assignments.{constructor_in, with_constructor, outputs_of_class, assignment}
use Rattle.sv_names.specs.Blocks.{end_label, decls_code, in_sequence}
use Rattle.sv_names.specs.Statements.{stmts, place_from, result_variable}

-- a subroutine of the flat design, with the routines that its statements add
pub record MadeSubroutine : Type 0 where
  pub path : Path
  pub routine : Numbered Routine

-- ---- what a subroutine sees

-- the path of the result variable, which is neither that of a variable nor that of a block
abbrev pub result_path : Path → Path
result_path s = s ++ decimal 0 ∷ []

-- a function knows its own name, with its result variable
abbrev pub itself : Scope → Callee → Bool → Known
itself s c auto =
    record {
      name = c.name;
      kind = Of_object;
      value = given (λ t. Itself c (result_of_life auto (result_path s.path) t)) c.result;
    }

-- what the statements see
abbrev pub body_scope : Scope → Callee → (is_automatic : Bool) → (has_result : Bool) → Scope
body_scope s c auto true = record s { known = s.known ++ itself s c auto ∷ [] }
body_scope s c auto false = s

-- what `return` is to give
abbrev pub returns_of : Bool → Callee → Returns
returns_of true c = SomeValue c.path c.result
returns_of false c = NoValue

-- in the statements of a subroutine
abbrev pub in_body : Around → Scope → Bool → Bool → Bool → Returns → Around
in_body ar s auto object waits r =
    record ar {
      subroutine = Some s.path;
      scopes = s ∷ ar.scopes;
      blocks = 0;
      is_automatic = auto;
      has_object = object;
      may_not_wait = not waits;
      is_loop = false;
      returns = r;
    }

-- ---- arguments and result

-- the direction of an argument
abbrev pub way_of : WrittenDirection → Direction
way_of direction.Input = way.Input
way_of direction.Output = way.Output
way_of direction.Inout = way.Inout

-- an argument, by the variable that it is
abbrev pub formal_of : Around → Direction → Named → List Formal
formal_of ar d (Variable p t) =
    record { direction = d; variable = variable.Object (ar.numbers.object p); ty = data_of ar.numbers t } ∷ []
formal_of ar d (Local u p t) = record { direction = d; variable = variable.Local p; ty = data_of ar.numbers t } ∷ []
formal_of ar d n = []

-- the same by what is known
abbrev pub formal_known : Around → Direction → Option (Checked Named) → List Formal
formal_known ar d (Some (Good n)) = formal_of ar d n
formal_known ar d c = []

-- the arguments in order
abbrev pub argument_formals : Around → Scope → List Taken → List Formal
argument_formals ar s [] = []
argument_formals ar s (a ∷ as') =
    formal_known ar (way_of a.direction) (in_known 0 0 a.argument.name.text s.known) ++ argument_formals ar s as'

-- the object of a method
abbrev pub object_formal : Around → Scope → List Formal
object_formal ar s = formal_known ar way.Input (in_known 0 0 (codes "this") s.known)

-- the result of a function
abbrev pub result_formal : Around → Scope → Option Formal
result_formal ar s = first_of (of_named (result_variable 0 0 s.known))
  where
    of_named : Option Named → List Formal
    of_named None = []
    of_named (Some n) = formal_of ar way.Output n

    first_of : List Formal → Option Formal
    first_of [] = None
    first_of (f ∷ fs) = Some f

-- the objects of the arguments and of the result of a static subroutine
abbrev pub argument_objects : Around → Scope → List Taken → List Object
argument_objects ar s [] = []
argument_objects ar s (a ∷ as') = of_known (in_known 0 0 a.argument.name.text s.known) ++ argument_objects ar s as'
  where
    of_known : Option (Checked Named) → List Object
    of_known (Some (Good (Variable p t))) =
        object_at ar object_kind.Variable false false false a.argument.name.at p t None ∷ []
    of_known c = []

-- the object of the result of a static function
abbrev pub result_objects : Around → Scope → Name → List Object
result_objects ar s n = of_named (result_variable 0 0 s.known)
  where
    of_named : Option Named → List Object
    of_named (Some (Variable p t)) = object_at ar object_kind.Result false false false n.at p t None ∷ []
    of_named m = []

-- ---- subroutines

-- a subroutine of the flat design
abbrev pub subroutine_of : Around → Scope → Bool → Bool → List Formal → Option Formal → Subroutine
subroutine_of ar s is_function auto fs r =
    record {
      is_function = is_function;
      is_automatic = auto;
      home = home_of ar;
      formals = fs;
      result = r;
      locals = locals_of ar.numbers s;
    }

-- its routine
abbrev pub routine_at : Place → Subroutine → Code → Numbered Routine
routine_at at s c = changed (λ ss. record { at = at; body = ss; subroutine = Some s }) c

-- what stands before the statements: nothing, but in a constructor
abbrev pub Before : Type 0
Before = Around → Checked Code

-- a subroutine over its scope
abbrev pub subroutine_in : Around → Scope → Callee → Method → tree_stmt.Stmts → Before → Checked MadeSubroutine
subroutine_in ar s c m xs before =
    let h : Head = m.routine.head in
    let auto : Bool = subroutine_is_automatic ar.is_automatic c.class h in
    let i : Around = in_body ar s auto (not c.is_static) c.is_task (returns_of (has_result h) c) in
    let fs : List Formal = object_formal ar s ++ argument_formals ar s (taken h) in
    given (λ x. record {
      path = c.path;
      routine = routine_at h.name.at (subroutine_of ar s (not (is_task h)) auto fs (result_formal ar s))
          (with_objects (argument_objects i s (taken h) ++ result_objects i s h.name) x);
    })
    (in_sequence (before i) (in_sequence (decls_code i m.routine.decls) (stmts i xs)))

-- E5: what the declarations and the end label of a subroutine break
abbrev pub routine_stands : Around → Scope → Callee → Option Path → Method → Checked (Unit {0})
routine_stands ar s c k m =
    known_stand s.known where_also callee_stands c where_also twice (λ e. 5) [] (all_entries ar k m)
    where_also end_label (Some m.routine.head.name) m.routine.label

-- a subroutine, and the rules on its declarations
abbrev pub made_over : Around → Scope → Callee → Option Path → Method → tree_stmt.Stmts → Before → Checked MadeSubroutine
made_over ar s c k m xs before =
    let auto : Bool = subroutine_is_automatic ar.is_automatic k m.routine.head in
    subroutine_in ar (body_scope s c auto (has_result m.routine.head)) c m xs before where_also routine_stands ar s c k m

-- a subroutine in its scope; `p` is the path of what declares it
abbrev pub made_subroutine : Around → Path → Option Path → Method → tree_stmt.Stmts → Before → Checked MadeSubroutine
made_subroutine ar p k m xs before = with_scope (subroutine_scope ar p k m)
  where
    with_scope : Scope → Checked MadeSubroutine
    with_scope s = made_over ar s (callee_within ar s false k m) k m xs before

-- nothing stands before the statements
abbrev pub nothing_before : Before
nothing_before i = Good empty

-- a method that is pure has a head alone
abbrev pub pure_stands : Around → Path → Option Path → Method → Checked (Unit {0})
pure_stands ar p k m = with_scope (subroutine_scope ar p k m)
  where
    with_scope : Scope → Checked (Unit {0})
    with_scope s = routine_stands ar s (callee_within ar s true k m) k m

-- ---- constructors

-- the path of the constructor of a class
abbrev pub constructor_path : Path → Path
constructor_path k = k ++ codes "new" ∷ []

-- a call of the constructor of the base
abbrev pub super_form : Around → Path → Typed → List (Hoisted Argument) → Hoisted Form
super_form ar base this as' =
    mapped (λ xs.
    form.Call (record { form = call.Routine (ar.numbers.subroutine (constructor_path base)) None xs; result = None }))
    (in_row (as_input this.code ∷ as'))

-- `super.new`, written or implied, at the place of its statement
abbrev pub super_code : Around → Place → Place → Path → (Around → List Bool → List Arg) → Option ClassInfo → Checked Code
super_code i at pe base as' None = Good empty
super_code i at pe base as' (Some k) =
    given (single at) (raised i (λ s.
    given (λ p. super_form s base p.0 p.1)
    (both (this_typed s at) (with_constructor s pe base (as' s (outputs_of_class (Some k))) (constructor_in k)))))

-- E40: a base constructor needs arguments and none are given
abbrev pub needs_arguments : List FormalArgument → Bool
needs_arguments [] = false
needs_arguments (f ∷ fs) = lacks (usual_value f) || needs_arguments fs
  where
    lacks : Option (Checked Typed) → Bool
    lacks None = true
    lacks (Some d) = false

-- whether a base has such a constructor
abbrev pub constructor_needs : Option ClassInfo → Bool
constructor_needs None = false
constructor_needs (Some k) = of_known (constructor_in k)
  where
    of_known : Option (Checked Named) → Bool
    of_known (Some (Good (A_subroutine c))) = needs_arguments c.formals
    of_known c = false

-- `super.new` where none is written
abbrev pub implied_super : Around → ClassInfo → Place → Option Path → Checked Code
implied_super i k at None = Good empty
implied_super i k at (Some b) =
    if constructor_needs (class_in i.classes b)
    then broken_at 40 k.name.at
    else super_code i at at b (λ s os. []) (class_in i.classes b)

-- E38: `super.new` in a class that extends none
abbrev pub written_super :
    Around → ClassInfo → Place → Place → (Around → List Bool → List Arg) → Option Path → Checked Code
written_super i k at ps as' None =
    (if is_some k.base_fault then Good empty else broken_at 38 ps) where_also values_stand (as' i [])
written_super i k at ps as' (Some b) = super_code i at ps b as' (class_in i.classes b)

-- how a constructor begins
pub data Opening : Type 0 where
  Super_at : (at : Place) → (super : Place) → tree.Actuals → Opening
  No_super : Opening

-- whether `super.new` is its first statement
abbrev pub opening_of : tree_stmt.Stmts → Opening
opening_of (tree_stmt.AndStmt (tree_stmt.Statement at label (tree_stmt.Call (tree.SuperNew p new a))) xs) =
    Super_at (place_from at label) p a
opening_of xs = No_super

-- the statements after it
abbrev pub after_opening : tree_stmt.Stmts → tree_stmt.Stmts
after_opening (tree_stmt.AndStmt (tree_stmt.Statement at label (tree_stmt.Call (tree.SuperNew p new a))) xs) = xs
after_opening xs = xs

-- the call of the constructor of the base
abbrev pub super_of : ClassInfo → Place → Opening → Before
super_of k at (Super_at p ps a) i = written_super i k p ps (λ s os. actual_args s os a) k.base
super_of k at No_super i = implied_super i k at k.base

-- ---- the initializers of properties, each an assignment

-- a property as the target of its initializer
abbrev pub property_spot : Around → Place → Name → Named → Checked (List Spot)
property_spot i at n (Property k g m t) =
    if is_fixed t then broken_at 42 at
    else given (λ o. (at, field_typed i at k m t o) ∷ []) (this_typed i at)
property_spot i at n m = broken_at 7 at

-- what a property stands for
abbrev pub property_known : ClassInfo → Name → Checked Named
property_known k n = told (in_known 0 0 n.text k.scope.known)
  where
    told : Option (Checked Named) → Checked Named
    told None = broken_at 6 n.at
    told (Some c) = c

-- the initializer of a property
abbrev pub property_code : Around → ClassInfo → tree_stmt.Declarator → Checked Code
property_code i k x = of_init x.init
  where
    of_init : Option tree_stmt.Init → Checked Code
    of_init None = Good empty
    of_init (Some e) =
        given (single x.name.at)
        (raised i (λ s. assignment s (property_known k x.name ▷ property_spot s x.name.at x.name) None e))

-- those of one declaration
abbrev pub properties_code : Around → ClassInfo → List tree_stmt.Declarator → Checked Code
properties_code i k [] = Good empty
properties_code i k (x ∷ xs) = in_sequence (property_code i k x) (properties_code i k xs)

-- those of all items, in order
abbrev pub initializers : Around → ClassInfo → List tree_class.ClassItem → Checked Code
initializers i k [] = Good empty
initializers i k (tree_class.Property p ∷ is) =
    if p.qualifiers.is_static then initializers i k is
    else in_sequence (properties_code i k p.decl.names) (initializers i k is)
initializers i k (x ∷ is) = initializers i k is

-- a scope that knows the object alone
abbrev pub this_scope : Path → Path → Place → Scope
this_scope p k at =
    scope_of p (Some k) true (record { name = this_name at; kind = Of_object; value = Good (Local 0 0 (Class k)) } ∷ [])

-- names in them are looked up from the class, and not from the constructor
abbrev pub for_properties : Around → ClassInfo → Place → Around
for_properties ar k at =
    in_body ar (this_scope (constructor_path k.path) k.path at) true true true NoValue

-- what a constructor does before its own statements
abbrev pub constructor_before : Around → ClassInfo → List tree_class.ClassItem → Place → Opening → Before
constructor_before ar k is at o i = in_sequence (super_of k at o i) (initializers (for_properties ar k at) k is)

-- a constructor that is not written
abbrev pub implied_constructor : Around → ClassInfo → List tree_class.ClassItem → Checked MadeSubroutine
implied_constructor ar k is =
    let s : Scope = this_scope (constructor_path k.path) k.path k.name.at in
    given (λ c. record {
      path = constructor_path k.path;
      routine = routine_at k.name.at (subroutine_of ar s true true (object_formal ar s) None) c;
    })
    (constructor_before ar k is k.name.at No_super (for_properties ar k k.name.at))

-- a constructor that is written
abbrev pub written_constructor : Around → ClassInfo → List tree_class.ClassItem → Method → Checked MadeSubroutine
written_constructor ar k is m =
    made_subroutine ar k.path (Some k.path) m (after_opening m.routine.stmts)
    (constructor_before ar k is m.routine.head.name.at (opening_of m.routine.stmts))
