-- How objects are put behind others.
use Rattle.std.proofs.Common.{◌≡◌, ℕ, zero, suc, ◌≤◌, false, arith, length, List, [], ◌∷◌, ◌++◌, Option, None, refl, sym, ap, ◌∙◌, subst, append_assoc, append-nil}
use Rattle.std.specs.Prelude.{slice_get, nat_lt}
use Rattle.std.proofs.lemmas.Bool.Decides.{nat_tests}
use Rattle.sv_value.specs.declared.number.ObjId.{ObjId}
use Rattle.sv_flat.specs.declared.process.Edge.TheVariants.{Change}
use Rattle.sv_flat.specs.declared.process.Watch.{Watch}
use Rattle.sv_flat.specs.declared.process.Watch.TheVariants.{On}
use Rattle.sv_flat.specs.declared.process.Process.{Process}
use Rattle.sv_flat.specs.declared.stmt.Stmt.{Stmt}
use Rattle.sv_flat.specs.declared.stmt.Form.{Form}
use Rattle.sv_flat.specs.Expr.{Expr}
use Rattle.sv_flat.specs.Names.{Naming, expr_reads}
use Rattle.sv_built.specs.Waits.{in_stmt, watched_by}
use Rattle.sv_sense.specs.Objects.{Named, Read, objects_named, watches_objects}

-- nothing is named
pub named_none : (os : List ObjId) → Named os os []
named_none os = sym (append-nil os)

pub objects_both : (ms ns : List Naming) → objects_named (ms ++ ns) ≡ objects_named ms ++ objects_named ns
objects_both [] ns = refl
objects_both (m ∷ ms) ns = ap (λ os. m.object ∷ os) (objects_both ms ns)

-- some are named, and then others
pub named_both : (a b c : List ObjId) (ms ns : List Naming) → Named a b ms → Named b c ns → Named a c (ms ++ ns)
named_both a b c ms ns p q =
    q ∙ ap (λ os. os ++ objects_named ns) p ∙ append_assoc a (objects_named ms) (objects_named ns)
    ∙ ap (λ os. a ++ os) (sym (objects_both ms ns))

-- nothing is read
pub read_none : (os : List ObjId) → Read os os []
read_none os = sym (append-nil os)

-- one condition is read
pub read_one : (a b : List ObjId) (e : Expr) → Named a b (expr_reads e) → Read a b (On e Change None ∷ [])
read_one a b e p = p ∙ ap (λ os. a ++ os) (sym (append-nil (objects_named (expr_reads e))))

-- a turn of the loop
pub turn_read : (a b os : List ObjId) (ws : List Watch) → b ≡ a ++ os → b ++ watches_objects ws ≡ a ++ (os ++ watches_objects ws)
turn_read a b os ws p = ap (λ us. us ++ watches_objects ws) p ∙ append_assoc a os (watches_objects ws)

-- the last turn has put all behind
pub all_read : (a b : List ObjId) (ws : List Watch) → b ++ [] ≡ a ++ watches_objects ws → Read a b ws
all_read a b ws is = sym (append-nil b) ∙ is

-- ---- where there is no statement, or no process

below_none : {A : Type 0} (xs : List A) (i : ℕ) → length xs ≤ i → slice_get xs i ≡ None
below_none [] i h = refl
below_none (x ∷ xs) zero h = absurd (omega arith)
below_none (x ∷ xs) (suc i) h = below_none xs i (omega arith)

pub no_item : {A : Type 0} (xs ys : List A) (i : ℕ) → ys ≡ xs → false ≡ nat_lt i (length ys) → slice_get xs i ≡ None
no_item xs ys i e h =
    let k : length ys ≤ i = grind (arith, nat_tests) in
    ap (λ (zs : List _). slice_get zs i) (sym e) ∙ below_none ys i k

pub no_stmt : (os : List ObjId) (f : Form → List Watch) (o : Option Stmt) → o ≡ None → Read os os (in_stmt f o)
no_stmt os f o is = subst (λ (o : Option Stmt). Read os os (in_stmt f o)) (sym is) (read_none os)

pub no_process : (os : List ObjId) (o : Option Process) → o ≡ None → Read os os (watched_by o)
no_process os o is = subst (λ (o : Option Process). Read os os (watched_by o)) (sym is) (read_none os)
