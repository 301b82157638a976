-- `super.new`, and what constructors need.
use Rattle.std.proofs.Common.{rules, ◌≡◌, ◌∙◌, ℕ, Bool, false, ◌||◌, List, ◌∷◌, Option, Some, None, if◌then◌else◌, refl, sym, ap}
use Rattle.sv_value.specs.declared.place.Place.{Place}
use Rattle.sv_tree.specs.Expr as tree
use Rattle.sv_tree.specs.Stmt as tree_stmt
use Rattle.sv_tree.specs.declared.statement.Body.{Body, Call}
use Rattle.sv_tree.specs.StmtView.{body}
use Rattle.sv_tree.specs.declared.word.Name.{Name}
use Rattle.sv_names.specs.declared.around.ClassInfo.{ClassInfo}
use Rattle.sv_names.specs.declared.checked.Checked.{Checked}
use Rattle.sv_names.specs.declared.checked.Checked.TheVariants.{Good, Broken}
use Rattle.sv_names.specs.declared.named.Callee.{Callee}
use Rattle.sv_names.specs.declared.named.Formal.{Formal}
use Rattle.sv_names.specs.declared.named.Named.{Named}
use Rattle.sv_names.specs.declared.named.Named.TheVariants.{Subroutine, Itself}
use Rattle.sv_names.specs.declared.named.ResultVariable.TheVariants as result_variables
use Rattle.sv_names.specs.declared.typed.Typed.{Typed}
use Rattle.sv_names.specs.Assignments.{constructor_in}
use Rattle.sv_names.specs.Calls.{usual_value}
use Rattle.sv_names.specs.Checked.{broken_at}
use Rattle.sv_names.specs.Named.{Around, placed_at}
use Rattle.sv_names.specs.Subroutines.{No_super, opening_of, after_opening, constructor_needs, needs_arguments}
use Rattle.sv_names.specs.Types.{Path}
use Rattle.sv_elab_before.specs.Supers.{opening_at, behind_opening, is_needed, needs, super_statement, implied_call}

-- ---- what constructors need

-- an argument and those behind it
more_by : (f : Formal) (fs : List Formal) (o : Option (Checked Typed)) → usual_value f ≡ o
    → (is_needed f || needs_arguments fs) ≡ needs_arguments (f ∷ fs)
more_by f fs None is = search rules
more_by f fs (Some d) is = search rules

pub needs_more : (f : Formal) (fs : List Formal) → (is_needed f || needs_arguments fs) ≡ needs_arguments (f ∷ fs)
needs_more f fs = more_by f fs (usual_value f) refl

-- by what a class declares
by_known : (k : ClassInfo) (o : Option (Checked Named)) → constructor_in k ≡ o → needs o ≡ constructor_needs (Some k)
by_known k None is = search rules
by_known k (Some (Broken f)) is = search rules
by_known k (Some (Good (Subroutine c))) is = search rules
by_known k (Some (Good n)) is = search rules

pub needs_by : (k : ClassInfo) → needs (constructor_in k) ≡ constructor_needs (Some k)
needs_by k = by_known k (constructor_in k) refl

-- what is no subroutine needs nothing
pub needs_nothing : (up place : ℕ) (n : Checked Named) → ((c : Callee) → n ≡ Good (Subroutine c) → ⊥) → false ≡ needs (Some (placed_at up place n))
needs_nothing up place (Good (Subroutine c)) other = absurd (other c refl)
needs_nothing up place (Broken f) other = refl
needs_nothing up place (Good (Itself c (result_variables.Local u p t))) other = refl
needs_nothing up place (Good (Itself c (result_variables.Object p t))) other = refl
needs_nothing up place (Good n) other = refl

-- ---- how constructors begin

-- a call that is a statement
called_is : (at : Place) (l : Option Name) (e : tree.Expr) (xs : tree_stmt.Stmts)
    → opening_at (tree_stmt.Statement at l (tree_stmt.Call e)) ≡ opening_of (tree_stmt.AndStmt (tree_stmt.Statement at l (tree_stmt.Call e)) xs)
called_is at l (tree.SuperNew p n a) xs = refl
called_is at l e xs = refl

-- the first statement tells it
pub opening_is : (s : tree_stmt.Stmt) (xs : tree_stmt.Stmts) → opening_at s ≡ opening_of (tree_stmt.AndStmt s xs)
opening_is (tree_stmt.Statement at l (tree_stmt.Call e)) xs = called_is at l e xs
opening_is (tree_stmt.Statement at l b) xs = refl

behind_called : (at : Place) (l : Option Name) (e : tree.Expr) (xs : tree_stmt.Stmts)
    → let s = tree_stmt.Statement at l (tree_stmt.Call e) in
    behind_opening (opening_at s) xs (tree_stmt.AndStmt s xs) ≡ after_opening (tree_stmt.AndStmt s xs)
behind_called at l (tree.SuperNew p n a) xs = refl
behind_called at l e xs = refl

-- and what stands behind it
pub behind_is : (s : tree_stmt.Stmt) (xs : tree_stmt.Stmts)
    → behind_opening (opening_at s) xs (tree_stmt.AndStmt s xs) ≡ after_opening (tree_stmt.AndStmt s xs)
behind_is (tree_stmt.Statement at l (tree_stmt.Call e)) xs = behind_called at l e xs
behind_is (tree_stmt.Statement at l b) xs = refl

-- what is no call is no `super.new`
pub no_call : (at : Place) (l : Option Name) (b : Body) → ((e : _) → b ≡ Call e → ⊥) → No_super ≡ opening_at (tree_stmt.Statement at l (body b))
no_call at l (Call e) other = absurd (other e refl)
no_call at l b other = refl

-- ---- implied calls

-- nothing is passed to a constructor that needs nothing
pub none_needed : (ar : Around) (name at : Place) (b : Path) (k : ClassInfo) (t : Bool) → t ≡ constructor_needs (Some k) → t ≡ false
    → super_statement ar at at b tree.Unwritten (Some k) ≡ implied_call ar name at b (Some k)
none_needed ar name at b k t is none =
    ap (λ (x : Bool). if x then broken_at 40 name else super_statement ar at at b tree.Unwritten (Some k)) (sym none ∙ is)
