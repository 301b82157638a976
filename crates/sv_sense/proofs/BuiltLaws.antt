-- What is waited for in a built design is built.
use Rattle.std.proofs.Common.{◌≡◌, ℕ, zero, suc, List, [], ◌∷◌, Option, None, Some, refl, subst}
use Rattle.std.specs.Prelude.{slice_get, slice_index_or}
use Rattle.std.specs.List.{AllByRecursion}
use Rattle.sv_value.specs.declared.number.ProcessId.{ProcessId}
use Rattle.sv_value.specs.declared.number.RoutineId.{RoutineId}
use Rattle.sv_flat.specs.declared.design.Parts.{Parts}
use Rattle.sv_flat.specs.declared.process.Process.{Process}
use Rattle.sv_flat.specs.declared.stmt.Stmt.{Stmt}
use Rattle.sv_flat.specs.declared.stmt.Form.{Form}
use Rattle.sv_flat.specs.declared.stmt.Form.TheVariants as form
use Rattle.sv_flat.specs.Config.{first_process}
use Rattle.sv_flat.specs.Process.{routine_of}
use Rattle.sv_built.specs.declared.position.Position.{Position}
use Rattle.sv_built.specs.declared.wait.Wait.{Wait}
use Rattle.sv_built.specs.declared.wait.Wait.TheVariants as wait
use Rattle.sv_built.specs.Built.{IsBuilt, IsBuiltWatch, IsBuiltForm, IsBuiltStmt, IsBuiltRoutine, IsBuiltProcess}
use Rattle.sv_built.specs.Positions.{stmt_at}
use Rattle.sv_built.specs.Waits.{control_of, condition_of, in_stmt, watched_by, watches_at}

module _ {X : Type 0} (P : X → Type 0) where
  all_index_or : (xs : List X) (i : ℕ) (v : X) → P v → AllByRecursion P xs → P (slice_index_or xs i v)
  all_index_or [] i v p h = p
  all_index_or (x ∷ xs) zero v p h = h.0
  all_index_or (x ∷ xs) (suc i) v p h = all_index_or xs i v p h.1

  all_get : (xs : List X) (i : ℕ) (x : X) → slice_get xs i ≡ Some x → AllByRecursion P xs → P x
  all_get [] i x e h = absurd (cc)
  all_get (y ∷ xs) zero x e h = (let z : y ≡ x = cc in subst P z h.0)
  all_get (y ∷ xs) (suc i) x e h = all_get xs i x e h.1

routine_built : (d : Parts) → IsBuilt d → (r : RoutineId) → IsBuiltRoutine (routine_of d r)
routine_built d b r = all_index_or IsBuiltRoutine d.routines r.0 _ (record { body = tt; subroutine = tt }) b.each_routine

stmt_built : (d : Parts) → IsBuilt d → (p : Position) (s : Stmt) → stmt_at d p ≡ Some s → IsBuiltStmt s
stmt_built d b p s e = all_get IsBuiltStmt (routine_of d p.routine).body p.place s e (routine_built d b p.routine).body

form_control : (f : Form) → IsBuiltForm f → AllByRecursion IsBuiltWatch (control_of f)
form_control (form.At ws) h = h
form_control f h = tt

form_condition : (f : Form) → IsBuiltForm f → AllByRecursion IsBuiltWatch (condition_of f)
form_condition (form.Wait e) h = ((tt, h, tt), tt)
form_condition f h = tt

pub control_built : (d : Parts) → IsBuilt d → (p : Position) (s : Stmt) → stmt_at d p ≡ Some s → AllByRecursion IsBuiltWatch (control_of s.form)
control_built d b p s e = form_control s.form (stmt_built d b p s e).built

pub condition_built : (d : Parts) → IsBuilt d → (p : Position) (s : Stmt) → stmt_at d p ≡ Some s → AllByRecursion IsBuiltWatch (condition_of s.form)
condition_built d b p s e = form_condition s.form (stmt_built d b p s e).built

pub watched_built : (d : Parts) → IsBuilt d → (p : ProcessId) (q : Process) → first_process d p ≡ Some q → AllByRecursion IsBuiltWatch q.watched
watched_built d b p q e = (all_get IsBuiltProcess d.processes p.0 q e b.each_process).watched

-- what is waited for
pub wait_built : (d : Parts) → IsBuilt d → (w : Wait) → AllByRecursion IsBuiltWatch (watches_at d w)
wait_built d b (wait.Control p) = by_stmt (stmt_at d p) refl
  where
    by_stmt : (o : Option Stmt) → stmt_at d p ≡ o → AllByRecursion IsBuiltWatch (in_stmt control_of o)
    by_stmt None e = tt
    by_stmt (Some s) e = control_built d b p s e
wait_built d b (wait.Condition p) = by_stmt (stmt_at d p) refl
  where
    by_stmt : (o : Option Stmt) → stmt_at d p ≡ o → AllByRecursion IsBuiltWatch (in_stmt condition_of o)
    by_stmt None e = tt
    by_stmt (Some s) e = condition_built d b p s e
wait_built d b (wait.Watched p) = by_process (first_process d p) refl
  where
    by_process : (o : Option Process) → first_process d p ≡ o → AllByRecursion IsBuiltWatch (watched_by o)
    by_process None e = tt
    by_process (Some q) e = watched_built d b p q e
