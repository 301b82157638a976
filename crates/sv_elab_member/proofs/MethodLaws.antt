-- Subroutines of a class by their routines.
use Rattle.std.proofs.Common.{◌≡◌, ◌∙◌, ℕ, Bool, true, false, List, [], ◌∷◌, ◌++◌, Option, Some, None, Ok, not, if◌then◌else◌, codes, refl, sym, ap, subst}
use Rattle.std.proofs.lemmas.Bool.{eqb-true}
use Rattle.std.specs.Prelude.{◌==◌, ◌&&◌}
use Rattle.sv_flat.specs.declared.class.Formal.{Formal}
use Rattle.sv_flat.specs.declared.class.Routine.{Routine}
use Rattle.sv_flat.specs.declared.object.Object.{Object}
use Rattle.sv_tree.specs.Classes as tree_class
use Rattle.sv_tree.specs.Stmt as tree_stmt
use Rattle.sv_tree.specs.Units.{Head, Method}
use Rattle.sv_names.specs.declared.around.ClassInfo.{ClassInfo}
use Rattle.sv_names.specs.declared.checked.Checked.{Checked}
use Rattle.sv_names.specs.declared.checked.Checked.TheVariants.{Good, Broken}
use Rattle.sv_names.specs.declared.checked.Fault.{Fault}
use Rattle.sv_names.specs.declared.named.Callee.{Callee}
use Rattle.sv_names.specs.declared.refusal.Refusal.{Refusal}
use Rattle.sv_names.specs.declared.refusal.Refusal.TheVariants.{Rule, Memory}
use Rattle.sv_names.specs.declared.scope.Scope.{Scope}
use Rattle.sv_names.specs.Checked.{earlier, given, ◌where_also◌}
use Rattle.sv_names.specs.Blocks.{decls_code, in_sequence}
use Rattle.sv_names.specs.Classes.{constructor_of, method_of}
use Rattle.sv_names.specs.Code.{Code, Numbered, with_objects}
use Rattle.sv_names.specs.Emits.{Made, Emits}
use Rattle.sv_names.specs.Entries.{has_result, is_constructor, is_task, subroutine_is_automatic, taken}
use Rattle.sv_names.specs.Given.{Fails}
use Rattle.sv_names.specs.Named.{Around}
use Rattle.sv_names.specs.Scopes.{callee_within, subroutine_scope}
use Rattle.sv_names.specs.Statements.{stmts}
use Rattle.sv_names.specs.Subroutines.{Before, MadeSubroutine, No_super, after_opening, argument_formals, argument_objects, body_scope, constructor_before, constructor_path, for_properties, in_body, made_subroutine, object_formal, opening_of, result_formal, result_objects, returns_of, routine_at, routine_stands, subroutine_in, subroutine_of, this_scope, written_constructor}
use Rattle.sv_names.specs.Types.{Path, same_bytes}
use Rattle.sv_elab_parts.specs.declared.so_far.SoFar.{SoFar}
use Rattle.sv_elab_parts.specs.Adding.{so_far_in}
use Rattle.sv_elab_member.specs.Methods.{alone, method_made}
use Rattle.sv_elab_member.specs.Putting.{Puts, Putting}

-- ---- what breaks no rule

-- what breaks a rule is no value
abbrev BreaksOne : {A : Type 0} → Checked A → Type 0
BreaksOne (Good a) = ⊥
BreaksOne (Broken f) = Unit {0}

broken_good : {A : Type 0} (f : Fault) (a : A) → Broken f ≡ Good a → ⊥
broken_good {A = A} f a is = subst (λ (x : Checked A). BreaksOne x) is tt

-- a value, or else another one
abbrev value_or : {A : Type 0} → A → Checked A → A
value_or a (Good b) = b
value_or a (Broken f) = a

-- the rule that is broken, or else another one
abbrev fault_or : {A : Type 0} → Fault → Checked A → Fault
fault_or f (Good a) = f
fault_or f (Broken g) = g

-- the subroutine of a routine
pub made_of : (x : Checked MadeSubroutine) (n : Numbered Routine) → given (λ m. m.routine) x ≡ Good n
    → (m : MadeSubroutine) × (x ≡ Good m) × (m.routine ≡ n)
made_of (Good m) n is = (m, refl, ap (value_or n) is)
made_of (Broken f) n is = absurd (broken_good f n is)

-- ---- paths

-- a subroutine has the path of what it is made of
path_alone : (p : Path) (f : Code → Numbered Routine) (c : Checked Code) (m : MadeSubroutine)
    → given (λ x. record { path = p; routine = f x }) c ≡ Good m → m.path ≡ p
path_alone p f (Good x) m is = ap (λ (y : Checked MadeSubroutine). (value_or m y).path) (sym is)
path_alone p f (Broken e) m is = absurd (broken_good e m is)

-- rules do not change it
unguarded : {A : Type 0} (x : Checked A) (g : Checked (Unit {0})) (a : A) → (x where_also g) ≡ Good a → x ≡ Good a
unguarded (Good b) (Good u) a is = is
unguarded (Good b) (Broken f) a is = absurd (broken_good f a is)
unguarded (Broken e) (Good u) a is = absurd (broken_good e a is)
unguarded (Broken e) (Broken f) a is = absurd (broken_good (earlier e f) a is)

-- a subroutine in its scope
path_within : (ar : Around) (s : Scope) (c : Callee) (m : Method) (xs : tree_stmt.Stmts) (before : Before) (made : MadeSubroutine)
    → subroutine_in ar s c m xs before ≡ Good made → made.path ≡ c.path
path_within ar s c m xs before made is =
    let h : Head = m.routine.head in
    let auto : Bool = subroutine_is_automatic ar.is_automatic c.class h in
    let i : Around = in_body ar s auto (not c.is_static) c.is_task (returns_of (has_result h) c) in
    let fs : List Formal = object_formal ar s ++ argument_formals ar s (taken h) in
    path_alone c.path
    (λ x.
    routine_at h.name.at (subroutine_of ar s (not (is_task h)) auto fs (result_formal ar s))
    (with_objects (argument_objects i s (taken h) ++ result_objects i s h.name) x))
    (in_sequence (before i) (in_sequence (decls_code i m.routine.decls) (stmts i xs))) made is

-- a method is named in its class
pub method_path : (ar : Around) (p : Path) (k : Option Path) (m : Method) (xs : tree_stmt.Stmts) (before : Before) (made : MadeSubroutine)
    → made_subroutine ar p k m xs before ≡ Good made → made.path ≡ p ++ m.routine.head.name.text ∷ []
method_path ar p k m xs before made is =
    let s : Scope = subroutine_scope ar p k m in
    let c : Callee = callee_within ar s false k m in
    let t : Scope = body_scope s c (subroutine_is_automatic ar.is_automatic k m.routine.head) (has_result m.routine.head) in
    path_within ar t c m xs before made (unguarded (subroutine_in ar t c m xs before) (routine_stands ar s c k m) made is)

-- both of two tests
first_test : (a b : Bool) → (a && b) ≡ true → a ≡ true
first_test true b h = refl
first_test false b h = h

second_test : (a b : Bool) → (a && b) ≡ true → b ≡ true
second_test true b h = h
second_test false b h = cc

-- texts that the test takes for one are one
same_text : (xs ys : List ℕ) → same_bytes xs ys ≡ true → xs ≡ ys
same_text [] [] h = refl
same_text [] (y ∷ ys) h = cc
same_text (x ∷ xs) [] h = cc
same_text (x ∷ xs) (y ∷ ys) h =
    λ i. eqb-true x y (first_test (x == y) (same_bytes xs ys) h) i ∷ same_text xs ys (second_test (x == y) (same_bytes xs ys) h) i

-- a constructor is named `new`
chosen_path : (ar : Around) (k : ClassInfo) (whole is : List tree_class.ClassItem) (m : Method) (made : MadeSubroutine) (b : Bool)
    → is_constructor m.routine.head ≡ b → (constructor_of ar k whole is ≡ Good made → made.path ≡ constructor_path k.path)
    → (if b then written_constructor ar k whole m else constructor_of ar k whole is) ≡ Good made → made.path ≡ constructor_path k.path
chosen_path ar k whole is m made true named rest same =
    method_path ar k.path (Some k.path) m (after_opening m.routine.stmts)
    (constructor_before ar k whole m.routine.head.name.at (opening_of m.routine.stmts)) made same ∙ ap (λ (x : List ℕ). k.path ++ x ∷ []) (same_text m.routine.head.name.text (codes "new") named)
chosen_path ar k whole is m made false named rest same = rest same

pub constructor_named : (ar : Around) (k : ClassInfo) (whole is : List tree_class.ClassItem) (made : MadeSubroutine)
    → constructor_of ar k whole is ≡ Good made → made.path ≡ constructor_path k.path
constructor_named ar k whole [] made same =
    let s : Scope = this_scope (constructor_path k.path) k.path k.name.at in
    path_alone (constructor_path k.path) (λ x. routine_at k.name.at (subroutine_of ar s true true (object_formal ar s) None) x)
    (constructor_before ar k whole k.name.at No_super (for_properties ar k k.name.at)) made same
constructor_named ar k whole (tree_class.Method m ∷ is) made same =
    chosen_path ar k whole is m made (is_constructor m.routine.head) refl (constructor_named ar k whole is made) same
constructor_named ar k whole (tree_class.Property p ∷ is) made same = constructor_named ar k whole is made same
constructor_named ar k whole (tree_class.Pure m ∷ is) made same = constructor_named ar k whole is made same
constructor_named ar k whole (tree_class.Typedef t ∷ is) made same = constructor_named ar k whole is made same
constructor_named ar k whole (tree_class.Announce n ∷ is) made same = constructor_named ar k whole is made same
constructor_named ar k whole (tree_class.Null ∷ is) made same = constructor_named ar k whole is made same

-- ---- what stands so far

-- a routine behind the subroutines, with what it adds
pub put_alone : (x z : SoFar) (rs : List Routine) (os : List Object) (m : MadeSubroutine) (r : Routine)
    → Made x.routines rs x.objects os r m.routine
    → z
    ≡ record x {
      routines = rs;
      objects = os;
      subroutines = x.subroutines ++ r ∷ [];
      subroutine_paths = x.subroutine_paths ++ m.path ∷ [];
    } → Puts x z m
put_alone x z rs os m r made is =
    record {
      so_far = ap so_far_in is
          ∙ (λ i. record (so_far_in x) {
            objects = made.declared i;
            subroutines = x.subroutines ++ made.value i ∷ [];
            routines = made.added i;
          });
      subroutines = ap (λ (s : SoFar). s.subroutine_paths) is;
      classes = ap (λ (s : SoFar). s.class_paths) is;
      clockings = ap (λ (s : SoFar). s.clocking_paths) is;
    }

-- a subroutine that is made, where its path is known
pub put_given : (w : Checked MadeSubroutine) (x z : SoFar) (own : Path) (rs : List Routine) (os : List Object) (r : Routine)
    → ((m : MadeSubroutine) → w ≡ Good m → m.path ≡ own) → Emits x.routines rs x.objects os (Ok r) (given (λ m. m.routine) w)
    → z
    ≡ record x {
      routines = rs;
      objects = os;
      subroutines = x.subroutines ++ r ∷ [];
      subroutine_paths = x.subroutine_paths ++ own ∷ [];
    } → Putting x z (Ok tt) (given alone w)
put_given w x z own rs os r named e is =
    let made = made_of w e.0 e.1 in
    let m = made.0 in
    let put = put_alone x z rs os m r (subst (λ (n : Numbered Routine). Made x.routines rs x.objects os r n) (sym made.2) e.2)
    (is
    ∙ ap (λ (q : Path).
    record x { routines = rs; objects = os; subroutines = x.subroutines ++ r ∷ []; subroutine_paths = x.subroutine_paths ++ q ∷ [] })
    (sym (named m made.1))) in (
      m ∷ [],
      ap (given alone) made.1,
      (z, put, refl),
    )

-- one that breaks a rule
pub fails_alone : (e : Refusal) (w : Checked MadeSubroutine) → Fails e (given (λ m. m.routine) w) → Fails e (given alone w)
fails_alone (Rule n at) (Good m) is = absurd (broken_good (record { at = at; rule = n }) m.routine (sym is))
fails_alone (Rule n at) (Broken f) is = ap Broken (ap (fault_or f) is)
fails_alone Memory w is = tt

-- ---- items

-- a method is no constructor
pub method_is : (ar : Around) (k : ClassInfo) (m : Method) (t : Bool) → t ≡ is_constructor m.routine.head → t ≡ false
    → method_made ar k m ≡ method_of ar k (tree_class.Method m)
method_is ar k m t is none =
    ap (λ (b : Bool). if b then Good [] else method_made ar k m) (sym none ∙ is)
