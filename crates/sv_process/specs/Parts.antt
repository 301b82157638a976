-- What statements do, by what they see and what is left after them.
use Rattle.std.specs.Prelude.{Option, None, Some, ◌++◌, ◌≡◌, ◌+◌, ◌^◌, ℕ, true, false, List, [], ◌∷◌, Result, Ok, Err, nat_lt}
use Rattle.sv_value.specs.declared.place.FaultKind.TheVariants as fault
use Rattle.sv_eval.specs.declared.stopped.Stopped.{Stopped}
use Rattle.sv_eval.specs.declared.stopped.Stopped.TheVariants.{Memory, Fault}
use Rattle.sv_value.specs.declared.val.Val.{Val}
use Rattle.sv_value.specs.declared.val.Val.TheVariants as val
use Rattle.sv_value.specs.declared.schedule.Job.TheVariants as job
use Rattle.sv_value.specs.declared.number.ProcessId.{ProcessId}
use Rattle.sv_value.specs.declared.number.RoutineId.{RoutineId}
use Rattle.sv_value.specs.declared.place.Place.{Place}
use Rattle.sv_flat.specs.declared.object.Declared.{Declared}
use Rattle.sv_flat.specs.declared.stmt.JoinKind.{JoinKind}
use Rattle.sv_flat.specs.declared.design.Parts.{Parts}
use Rattle.sv_flat.specs.declared.stmt.Stmt.{Stmt}
use Rattle.sv_flat.specs.declared.stmt.Form.{Form}
use Rattle.sv_flat.specs.declared.target.Lvalue.{Lvalue}
use Rattle.sv_flat.specs.State.{View, Name}
use Rattle.sv_flat.specs.Targets.{target_values}
use Rattle.sv_flat.specs.Process.{Update_at, Start_children, body_in}
use Rattle.sv_flat.specs.Process.{Todo, Spot}
use Rattle.sv_flat.specs.Statements.{executed, forked, spawn}
use Rattle.sv_flat.specs.Statements.Delays.{at_moment}
use Rattle.sv_flat.specs.Statements.Loops.{entered_with, inside}
use Rattle.sv_flat.specs.Statements.Shared.{Effects, Site, goes_on, updates_for, written}

-- a text as a value
abbrev pub text_of : List ℕ → Val
text_of t = val.Text t

-- an assignment to places
abbrev pub writes : List Todo → List Lvalue → List Spot → Val → Effects
writes rest ts ss x = goes_on rest (written ss (target_values ts x))

-- the updates of places, so many ticks from now
abbrev pub updates : View → List Todo → List Lvalue → Val → ℕ → List Spot → Effects
updates v rest ts x n ss = at_moment n v (λ t. goes_on rest (Update_at t (job.Update (updates_for ss (target_values ts x))) ∷ []))

-- there is a moment so many ticks from now, and this is it, or it lies past the end of time
abbrev pub Reaches : Result ℕ Stopped → View → ℕ → Type 0
Reaches (Ok t) v n = (t ≡ v.now + n) × (nat_lt (v.now + n) (2 ^ 63) ≡ true)
Reaches (Err (Fault k)) v n = (k ≡ fault.Time) × (nat_lt (v.now + n) (2 ^ 63) ≡ false)
Reaches (Err Memory) v n = Unit {0}

-- where a statement runs whose calls were made, and what is left behind it
abbrev pub site_at : Stmt → View → (scope : Option Name) → (next : Name) → List Todo → Site
site_at s v scope next rest = record { at = s.at; view = v; scope = scope; next = next; hidden = None; rest = rest }

-- a fork, whose children see `outer` where it declares no variables
abbrev pub fork_run : Parts → Site → (outer : Option Name) → List Declared → Option RoutineId → List RoutineId → JoinKind → Effects
fork_run d here outer vs initializers children join =
    forked d here initializers children join (inside vs outer here.next) (entered_with vs outer)

-- the children of a fork behind other effects, at once or behind their initializers
abbrev pub fork_starts : Parts → Place → Option RoutineId → List RoutineId → JoinKind → (scope : Option Name) → (before : Effects) → (rest : List Todo) → Effects
fork_starts d at None children join scope before rest = spawn children join scope rest before
fork_starts d at (Some r) children join scope before rest = goes_on (body_in d r scope ++ Start_children at children join scope ∷ rest) before

-- a statement whose calls were made, in a scope that sees this; `outer` is what its branches and bodies see
abbrev pub stmt_run : Parts → ProcessId → (next : Name) → (outer scope : Option Name) → View → Stmt → Form → List Todo → Effects
stmt_run d p next outer scope v s f rest =
    executed d p s f outer (record { at = s.at; view = v; scope = scope; next = next; hidden = None; rest = rest })
