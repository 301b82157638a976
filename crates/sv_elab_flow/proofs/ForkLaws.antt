-- The initializers of a fork.
use Rattle.std.proofs.Common.{rules, None, ◌≡◌, ℕ, ◌+◌, Bool, true, false, List, [], ◌∷◌, ◌++◌, length, Option, Some, ap, sym, subst, ◌∙◌, refl}
use Rattle.sv_value.specs.declared.place.Place.{Place}
use Rattle.sv_value.specs.declared.number.RoutineId.{RoutineId}
use Rattle.sv_flat.specs.declared.class.Routine.{Routine}
use Rattle.sv_flat.specs.declared.object.Object.{Object}
use Rattle.sv_flat.specs.declared.stmt.Form.{Form}
use Rattle.sv_flat.specs.declared.stmt.Stmt.{Stmt}
use Rattle.sv_tree.specs.declared.word.Life.{Life}
use Rattle.sv_tree.specs.declared.word.Name.{Name}
use Rattle.sv_tree.specs.Stmt.{Decl, Declarator, Init}
use Rattle.sv_names.specs.declared.checked.Checked.{Checked}
use Rattle.sv_names.specs.declared.checked.Checked.TheVariants.{Good, Broken}
use Rattle.sv_names.specs.declared.hoisted.Hoisted.{Hoisted}
use Rattle.sv_names.specs.Blocks.{in_sequence, decls_code, declarators_code, declarator_code, local_variable, static_variable, declared_variable, word_stands}
use Rattle.sv_names.specs.Checked.{given, ◌where_also◌}
use Rattle.sv_names.specs.Code.{Numbered, Code, empty, single, with_objects, as_routine, changed}
use Rattle.sv_names.specs.Emits.{Made}
use Rattle.sv_names.specs.Entries.{is_automatic_life}
use Rattle.sv_names.specs.Named.{Around}
use Rattle.sv_names.specs.Statements.{first_routine}
use Rattle.sv_elab_flow.specs.Forks.{Steady}
use Rattle.sv_elab_flow.proofs.Added.{routine_made}

-- ---- a routine of their own

-- none where there are no initializers
first_of_none : (at : Place) (c : Code) → (c.make 0).0 ≡ [] → first_routine at c ≡ record { objects = c.objects; make = λ n. (None, []) }
first_of_none at c none = search rules

-- one where there are some
first_of_some : (at : Place) (c : Code) (s : Stmt) (ss : List Stmt) → (c.make 0).0 ≡ s ∷ ss → first_routine at c ≡ changed Some (as_routine at c)
first_of_some at c s ss some = search rules

-- the statements of steady code
pub steady_value : (rs rs' : List Routine) (os os' : List Object) (ss : List Stmt) (c : Code) → Steady (Good c) → Made rs rs' os os' ss c
    → (c.make 0).0 ≡ ss
steady_value rs rs' os os' ss c steady m =
    let first : List Stmt × List Routine → List Stmt = λ p. p.0 in
    sym (m.value ∙ ap first (steady (length rs)))

-- no routine is made
pub no_routine_made : (at : Place) (rs rs' : List Routine) (os os' : List Object) (c : Code) → Steady (Good c)
    → Made rs rs' os os' [] c → Made rs rs' os os' None (first_routine at c)
no_routine_made at rs rs' os os' c steady m =
    let second : List Stmt × List Routine → List Routine = λ p. rs ++ p.1 in
    subst (λ (f : Numbered (Option RoutineId)). Made rs rs' os os' None f)
    (sym (first_of_none at c (steady_value rs rs' os os' [] c steady m)))
    (record { value = refl; added = m.added ∙ ap second (steady (length rs)); declared = m.declared })

-- a routine is made
pub first_routine_made : (at : Place) (rs rs' : List Routine) (os os' : List Object) (s : Stmt) (ss : List Stmt) (c : Code) → Steady (Good c)
    → Made rs rs' os os' (s ∷ ss) c
    → Made rs (rs' ++ record { at = at; body = s ∷ ss; subroutine = None } ∷ []) os os' (Some (record { 0 = length rs' })) (first_routine at c)
first_routine_made at rs rs' os os' s ss c steady m =
    let made : Made rs (rs' ++ record { at = at; body = s ∷ ss; subroutine = None } ∷ []) os os' (record { 0 = length rs' }) (as_routine at c) =
    routine_made at rs rs' os os' (s ∷ ss) c m in
    let some : RoutineId → Option RoutineId = λ r. Some r in
    subst (λ (f : Numbered (Option RoutineId)). Made rs (rs' ++ record { at = at; body = s ∷ ss; subroutine = None } ∷ []) os os' (Some (record { 0 = length rs' })) f)
    (sym (first_of_some at c s ss (steady_value rs rs' os os' (s ∷ ss) c steady m)))
    (record { value = ap some made.value; added = made.added; declared = made.declared })

-- ---- initializers have no routines

-- one after another
steady_sequence : (x y : Checked Code) → Steady x → Steady y → Steady (in_sequence x y)
steady_sequence (Good a) (Good b) p q =
    let Both : Type 0 = List Stmt × List Routine in
    let whole : ℕ → Both → Both = λ n u. (u.0 ++ (b.make (n + length u.1)).0, u.1 ++ (b.make (n + length u.1)).1) in
    let last : Both → Both = λ u. ((a.make 0).0 ++ u.0, u.1) in
    let alone : Both → Both = λ u. ((a.make 0).0 ++ u.0, []) in
    λ n. ap (whole n) (p n) ∙ ap last (q (n + 0)) ∙ sym (ap alone (q (0 + length (a.make 0).1)))
steady_sequence (Good a) (Broken g) p q = tt
steady_sequence (Broken f) (Good b) p q = tt
steady_sequence (Broken f) (Broken g) p q = tt

-- one statement
steady_single : (at : Place) (x : Checked (Hoisted Form)) → Steady (given (single at) x)
steady_single at (Good f) = λ n. refl
steady_single at (Broken f) = tt

-- objects alone
steady_objects : {A : Type 0} (f : A → List Object) (x : Checked A) → Steady (given (λ p. with_objects (f p) empty) x)
steady_objects f (Good x) = λ n. refl
steady_objects f (Broken g) = tt

-- with a further rule
steady_where : (x : Checked Code) (y : Checked (Unit {0})) → Steady x → Steady (x where_also y)
steady_where (Good c) (Good u) p = p
steady_where (Good c) (Broken g) p = tt
steady_where (Broken f) (Good u) p = tt
steady_where (Broken f) (Broken g) p = tt

-- a variable of the activation
steady_local : (ar : Around) (n : Name) (i : Option Init) → Steady (local_variable ar n i)
steady_local ar n None = λ k. refl
steady_local ar n (Some i) = steady_single n.at _

-- a declaration by its life
declared_local : (ar : Around) (l : Life) (x : Declarator) → is_automatic_life ar.is_automatic l ≡ true
    → declarator_code ar l x ≡ local_variable ar x.name x.init
declared_local ar l x is = search rules

declared_static : (ar : Around) (l : Life) (x : Declarator) → is_automatic_life ar.is_automatic l ≡ false
    → declarator_code ar l x ≡ static_variable ar x.name (declared_variable ar x.name) x.init where_also word_stands l x.init
declared_static ar l x is = search rules

steady_by : (ar : Around) (l : Life) (x : Declarator) (b : Bool) → is_automatic_life ar.is_automatic l ≡ b → Steady (declarator_code ar l x)
steady_by ar l x true is = subst Steady (sym (declared_local ar l x is)) (steady_local ar x.name x.init)
steady_by ar l x false is = subst Steady (sym (declared_static ar l x is)) (steady_where _ _ (steady_objects _ _))

steady_declarator : (ar : Around) (l : Life) (x : Declarator) → Steady (declarator_code ar l x)
steady_declarator ar l x = steady_by ar l x (is_automatic_life ar.is_automatic l) refl

-- the variables of one declaration
steady_declarators : (ar : Around) (l : Life) (xs : List Declarator) → Steady (declarators_code ar l xs)
steady_declarators ar l [] = λ n. refl
steady_declarators ar l (x ∷ xs) =
    steady_sequence (declarator_code ar l x) (declarators_code ar l xs) (steady_declarator ar l x) (steady_declarators ar l xs)

-- all declarations
pub steady_decls : (ar : Around) (ds : List Decl) → Steady (decls_code ar ds)
steady_decls ar [] = λ n. refl
steady_decls ar (d ∷ ds) =
    steady_sequence (declarators_code ar d.life d.names) (decls_code ar ds) (steady_declarators ar d.life d.names) (steady_decls ar ds)
