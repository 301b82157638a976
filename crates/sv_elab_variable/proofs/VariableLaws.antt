-- The variables of declarations.
use Rattle.std.proofs.Common.{rules, ◌≡◌, ◌∙◌, ℕ, ◌++◌, Bool, true, false, List, [], Option, Some, None, option_map, Result, Ok, if◌then◌else◌, refl, sym, ap, subst, append-nil}
use Rattle.sv_flat.specs.declared.class.Routine.{Routine}
use Rattle.sv_flat.specs.declared.object.Initial.{Initial}
use Rattle.sv_flat.specs.declared.object.Object.{Object}
use Rattle.sv_flat.specs.declared.stmt.Form.{Form}
use Rattle.sv_flat.specs.declared.stmt.Form.TheVariants as form
use Rattle.sv_flat.specs.declared.stmt.Stmt.{Stmt}
use Rattle.sv_tree.specs.declared.word.Life.{Life}
use Rattle.sv_tree.specs.declared.word.Name.{Name}
use Rattle.sv_tree.specs.Stmt.{Declarator, Init}
use Rattle.sv_names.specs.declared.checked.Checked.{Checked}
use Rattle.sv_names.specs.declared.checked.Checked.TheVariants.{Good, Broken}
use Rattle.sv_names.specs.declared.checked.Fault.{Fault}
use Rattle.sv_names.specs.declared.hoisted.Hoisted.{Hoisted}
use Rattle.sv_names.specs.declared.named.Named.{Named}
use Rattle.sv_names.specs.declared.named.Named.TheVariants.{Variable, Local, Itself}
use Rattle.sv_names.specs.declared.named.ResultVariable.TheVariants as result_variable
use Rattle.sv_names.specs.declared.refusal.Refusal.{Refusal}
use Rattle.sv_names.specs.declared.refusal.Refusal.TheVariants.{Rule, Memory}
use Rattle.sv_names.specs.declared.scope.Found as scope
use Rattle.sv_names.specs.declared.ty.Ty.{Ty}
use Rattle.sv_names.specs.declared.ty.Ty.TheVariants.{Nothing}
use Rattle.sv_names.specs.Assignments.{Amount, assignment, at_opening, init_alone, initial_of, not_at_opening}
use Rattle.sv_names.specs.Blocks.{assigned_first, declarator_code, declared_variable, local_variable, object_of, static_variable, type_of_variable, variable_spot, word_stands}
use Rattle.sv_names.specs.Checked.{◌▷◌, also_broken, both, broken_at, comes_before, earlier, given, ◌where_also◌}
use Rattle.sv_names.specs.Code.{Code, empty, single, with_objects}
use Rattle.sv_names.specs.Emits.{Emits}
use Rattle.sv_names.specs.Entries.{is_automatic_life}
use Rattle.sv_names.specs.Given.{Fails, refused}
use Rattle.sv_names.specs.Hoisted.{pure}
use Rattle.sv_names.specs.Joined.{earlier_in}
use Rattle.sv_names.specs.Named.{Around, at_level, declared_from, found, placed_at, raised, value_found}
use Rattle.sv_names.specs.Targets.{Spot}
use Rattle.sv_names.specs.Types.{Path}
use Rattle.sv_names.specs.Views.{found_in}
use Rattle.sv_names.proofs.Earlier.{earlier_assoc}

-- ---- by what declarations stand for

-- the object of a static variable, with an initial value that may break a rule
abbrev opened : Around → Name → Named → Checked (Option Initial) → Checked Code
opened ar n x c = given (λ i. with_objects (object_of ar n x i) empty) c

-- what a declaration that is looked up stands for
abbrev declared_as : Name → Option (Checked Named) → Checked Named
declared_as n None = broken_at 6 n.at
declared_as n (Some c) = c

-- what is no variable has no type
pub other_type : (x : Named) → ((p : Path) (t : Ty) → x ≡ Variable p t → ⊥) → ((u i : ℕ) (t : Ty) → x ≡ Local u i t → ⊥)
    → type_of_variable x ≡ Good Nothing
other_type (Variable p t) a b = absurd (a p t refl)
other_type (Local u i t) a b = absurd (b u i t refl)
other_type x a b = refl

-- what breaks no rule, beside a part that may break one
given_both : {A B C : Type 0} (h : A × B → C) (a : A) (y : Checked B) → given h (both (Good a) y) ≡ given (λ b. h (a, b)) y
given_both h a (Good b) = refl
given_both h a (Broken g) = refl

module _ (ar : Around) (n : Name) (i : Option Init) where
  -- a variable whose declaration breaks no rule
  good_static : (x : Named) → static_variable ar n (Good x) i ≡ opened ar n x (initial_of ar n.at (type_of_variable x) i)
  good_static x =
      given_both (λ (p : Named × Option Initial). with_objects (object_of ar n p.0 p.1) empty) x (initial_of ar n.at (type_of_variable x) i)

  -- its object
  pub object_emitted : (x : Named) (j : Option Initial) (ss : List Stmt) (rs : List Routine) (os os' : List Object)
      → initial_of ar n.at (type_of_variable x) i ≡ Good j → os' ≡ os ++ object_of ar n x j → ss ≡ []
      → Emits rs rs os os' (Ok ss) (static_variable ar n (Good x) i)
  object_emitted x j ss rs os os' is added none = (
    with_objects (object_of ar n x j) empty,
    good_static x ∙ ap (opened ar n x) is,
    record {
      value = none;
      added = sym (append-nil rs);
      declared = added ∙ ap (λ (l : List Object). os ++ l) (sym (append-nil (object_of ar n x j)));
    },
  )

  -- the rule that its initializer breaks
  pub opening_failed : (x : Named) (e : Refusal) → Fails e (initial_of ar n.at (type_of_variable x) i)
      → Fails e (static_variable ar n (Good x) i)
  opening_failed x (Rule k at) is = good_static x ∙ ap (opened ar n x) is
  opening_failed x Memory is = tt

  -- the activation in which a variable stands makes no object
  opened_anywhere : (up place : ℕ) (x : Named)
      → opened ar n (at_level up place x) (initial_of ar n.at (type_of_variable (at_level up place x)) i)
      ≡ opened ar n x (initial_of ar n.at (type_of_variable x) i)
  opened_anywhere up place (Local u p t) = refl
  opened_anywhere up place (Itself c (result_variable.Local u p t)) = refl
  opened_anywhere up place (Itself c (result_variable.Object p t)) = refl
  opened_anywhere up place x = refl

  static_anywhere : (up place : ℕ) (x : Named) → static_variable ar n (Good (at_level up place x)) i ≡ static_variable ar n (Good x) i
  static_anywhere up place x = good_static (at_level up place x) ∙ opened_anywhere up place x ∙ sym (good_static x)

-- ---- names

-- what a name is declared as
declared_by : (ar : Around) (n : Name) (o : Option (Checked Named)) → found ar n.text ≡ o → declared_variable ar n ≡ declared_as n o
declared_by ar n None is = search rules
declared_by ar n (Some c) is = search rules

-- a name that is not declared
pub none_declared : (ar : Around) (n : Name) (o : Option scope.Found) → option_map found_in o ≡ declared_from 0 n.text ar.scopes → o ≡ None
    → declared_variable ar n ≡ Broken (record { at = n.at; rule = 6 })
none_declared ar n o is none =
    declared_by ar n None (ap (option_map value_found) (sym is ∙ ap (λ (x : Option scope.Found). option_map found_in x) none))

-- one that is
found_declared : (ar : Around) (n : Name) (o : Option scope.Found) (f : scope.Found) (c : Checked Named)
    → option_map found_in o ≡ declared_from 0 n.text ar.scopes → o ≡ Some f → f.known.now.value ≡ c
    → declared_variable ar n ≡ placed_at f.up f.place c
found_declared ar n o f c is some of =
    declared_by ar n (Some (value_found (found_in f)))
    (ap (option_map value_found) (sym is ∙ ap (λ (x : Option scope.Found). option_map found_in x) some))
    ∙ ap (placed_at f.up f.place) of

-- one whose declaration breaks a rule
pub broken_declared : (ar : Around) (n : Name) (o : Option scope.Found) (f : scope.Found) (g : Fault)
    → option_map found_in o ≡ declared_from 0 n.text ar.scopes → o ≡ Some f → f.known.now.value ≡ Broken g
    → declared_variable ar n ≡ Broken g
broken_declared ar n o f g is some of = found_declared ar n o f (Broken g) is some of

-- one whose declaration breaks none
pub good_declared : (ar : Around) (n : Name) (i : Option Init) (o : Option scope.Found) (f : scope.Found) (x : Named)
    → option_map found_in o ≡ declared_from 0 n.text ar.scopes → o ≡ Some f → f.known.now.value ≡ Good x
    → static_variable ar n (Good x) i ≡ static_variable ar n (declared_variable ar n) i
good_declared ar n i o f x is some of =
    sym (static_anywhere ar n i f.up f.place x)
    ∙ ap (λ (c : Checked Named). static_variable ar n c i) (sym (found_declared ar n o f (Good x) is some of))

-- ---- a declaration that breaks a rule, beside its initializer

-- the first of a fault and itself
same_either : {A : Type 0} (b : Bool) (x : A) → (if b then x else x) ≡ x
same_either true x = refl
same_either false x = refl

earlier_same : (f : Fault) → earlier f f ≡ f
earlier_same f = same_either (comes_before f f) f

earlier_twice : (f g : Fault) → earlier f (earlier f g) ≡ earlier f g
earlier_twice f g = sym (earlier_assoc f f g) ∙ ap (λ (x : Fault). earlier x g) (earlier_same f)

-- without an initializer
pub broken_alone : (ar : Around) (n : Name) (f : Fault) → Fails (refused f) (static_variable ar n (Broken f) None)
broken_alone ar n f = ap Broken (earlier_same f)

-- what its initializer breaks by itself is told once
told_beside : (h : Named × Option Initial → Code) (f : Fault) (a b : Checked (Unit {0}))
    → let told : Checked Code = Broken (earlier_in f a) in
    let name : Checked Named = Broken f in
    (told where_also b) ≡ given h (both name (also_broken f (a where_also b)))
told_beside h f (Good u) (Good v) = ap Broken (sym (earlier_same f))
told_beside h f (Broken g) (Good v) = ap Broken (sym (earlier_twice f g))
told_beside h f (Good u) (Broken k) = ap Broken (sym (earlier_twice f k))
told_beside h f (Broken g) (Broken k) = ap Broken (earlier_assoc f g k ∙ sym (earlier_twice f (earlier g k)))

-- a target that breaks a rule, beside what is given to it
target_beside : (f : Fault) (a : Checked (Unit {0}))
    → let target : Checked (List Spot) = Broken f in
    let delay : Checked (Option Amount) = Good None in
    given (λ (p : (List Spot × Option Amount) × Unit {0}). pure form.Null) (both (both target delay) a) ≡ Broken (earlier_in f a)
target_beside f (Good u) = refl
target_beside f (Broken g) = refl

raised_broken : (ar : Around) (go : Around → Checked (Hoisted Form)) (f : Fault) → go ar ≡ Broken f → raised ar go ≡ Broken f
raised_broken ar go f is = search rules

assigned_broken : (ar : Around) (n : Name) (i : Init) (f : Fault) → declared_variable ar n ≡ Broken f
    → assigned_first ar n i ≡ Broken (earlier_in f (init_alone ar i))
assigned_broken ar n i f is =
    ap (given (single n.at))
    (raised_broken ar (λ s. assignment s (declared_variable s n ▷ variable_spot s n.at) None i) (earlier_in f (init_alone ar i))
    (ap (λ (c : Checked Named). assignment ar (c ▷ variable_spot ar n.at) None i) is ∙ target_beside f (init_alone ar i)))

-- the names are those of the scope around
opening_alike : (ar : Around) (n : Name) → declared_variable (at_opening ar) n ≡ declared_variable ar n
opening_alike ar n = declared_by (at_opening ar) n (found ar n.text) refl ∙ sym (declared_by ar n (found ar n.text) refl)

-- with an initializer
pub broken_beside : (ar : Around) (n : Name) (i : Init) (f : Fault) → declared_variable ar n ≡ Broken f
    → (assigned_first (at_opening ar) n i where_also not_at_opening i) ≡ static_variable ar n (Broken f) (Some i)
broken_beside ar n i f is =
    ap (λ (c : Checked Code). c where_also not_at_opening i) (assigned_broken (at_opening ar) n i f (opening_alike ar n ∙ is))
    ∙ told_beside (λ (p : Named × Option Initial). with_objects (object_of ar n p.0 p.1) empty) f (init_alone (at_opening ar) i) (not_at_opening i)

-- ---- by the life

-- a variable of an activation
pub automatic_code : (ar : Around) (l : Life) (x : Declarator) (rs : List Routine) (os : List Object) (r : Result (List Stmt) Refusal)
    → is_automatic_life ar.is_automatic l ≡ true → Emits rs rs os os r (local_variable ar x.name x.init)
    → Emits rs rs os os r (declarator_code ar l x)
automatic_code ar l x rs os r is e =
    let same : local_variable ar x.name x.init ≡ declarator_code ar l x = search rules in
    subst (λ (w : Checked Code). Emits rs rs os os r w) same e

-- a static one
pub static_code : (ar : Around) (l : Life) (x : Declarator) (rs : List Routine) (os os' : List Object) (r : Result (List Stmt) Refusal)
    → is_automatic_life ar.is_automatic l ≡ false
    → Emits rs rs os os' r (static_variable ar x.name (declared_variable ar x.name) x.init where_also word_stands l x.init)
    → Emits rs rs os os' r (declarator_code ar l x)
static_code ar l x rs os os' r is e =
    let same : (static_variable ar x.name (declared_variable ar x.name) x.init where_also word_stands l x.init) ≡ declarator_code ar l x =
    search rules in
    subst (λ (w : Checked Code). Emits rs rs os os' r w) same e
