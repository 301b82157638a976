-- Processes of one statement.
use Rattle.std.proofs.Common.{◌≡◌, ℕ, ◌+◌, List, [], ◌∷◌, ◌++◌, length, None, sym, ap, ◌∙◌, add-zero}
use Rattle.sv_value.specs.declared.place.Place.{Place}
use Rattle.sv_value.specs.declared.schedule.Side.TheVariants.{Active}
use Rattle.sv_flat.specs.declared.class.Routine.{Routine}
use Rattle.sv_flat.specs.declared.process.ProcessKind.{ProcessKind}
use Rattle.sv_flat.specs.declared.process.Watch.{Watch}
use Rattle.sv_flat.specs.declared.stmt.Form.{Form}
use Rattle.sv_flat.specs.declared.stmt.Stmt.{Stmt}
use Rattle.sv_names.specs.declared.hoisted.Hoisted.{Hoisted}
use Rattle.sv_names.specs.Code.{statement, single}
use Rattle.sv_names.specs.Connections.{assigning, watched_by}
use Rattle.sv_names.specs.Named.{Around}
use Rattle.sv_names.specs.Types.{Path}

-- a process with this body, and what it watches
pub process_is : (ar : Around) (at : Place) (k : ProcessKind) (f : Hoisted Form) (n : ℕ) (p : Path) (m : ℕ) (b : List Stmt) (ws : List Watch)
    → p ≡ ar.unit → m ≡ n → b ≡ statement at f ∷ [] → ws ≡ watched_by n (b, [])
    → record { at = at; path = p; kind = k; side = Active; program = None; body = record { 0 = m }; watched = ws }
    ≡ ((assigning ar at k (single at f)).make n).0
process_is ar at k f n p m b ws path id body is =
    let number : m ≡ n + 0 = id ∙ sym (add-zero n) in
    let watched : ws ≡ watched_by n (statement at f ∷ [], []) = is ∙ ap (λ (ss : List Stmt). watched_by n (ss, [])) body in
    λ i. record { at = at; path = path i; kind = k; side = Active; program = None; body = record { 0 = number i }; watched = watched i }

-- its routine
pub routine_is : (ar : Around) (at : Place) (k : ProcessKind) (f : Hoisted Form) (rs rs' : List Routine) (b : List Stmt)
    → b ≡ statement at f ∷ [] → rs' ≡ rs ++ record { at = at; body = b; subroutine = None } ∷ []
    → rs' ≡ rs ++ ((assigning ar at k (single at f)).make (length rs)).1
routine_is ar at k f rs rs' b body is =
    is ∙ ap (λ (ss : List Stmt). rs ++ record { at = at; body = ss; subroutine = None } ∷ []) body
