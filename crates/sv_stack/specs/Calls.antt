-- What is left to run of calls of tasks and functions (IEEE 1800-2017, 13.3 to 13.5).
use Rattle.std.specs.Prelude.{ℕ, ◌+◌, List, [], ◌∷◌, Option, None, Some, Result, Ok, drop, slice_get}
use Rattle.sv_value.specs.declared.place.FaultKind.{FaultKind}
use Rattle.sv_value.specs.declared.place.Place.{Place}
use Rattle.sv_flat.specs.declared.call.Argument.{Argument}
use Rattle.sv_flat.specs.declared.call.Call.{Call}
use Rattle.sv_flat.specs.declared.call.CallForm.{CallForm}
use Rattle.sv_flat.specs.declared.call.CallForm.TheVariants as call
use Rattle.sv_flat.specs.declared.class.Subroutine.{Subroutine}
use Rattle.sv_flat.specs.declared.class.Variable.{Variable}
use Rattle.sv_flat.specs.declared.target.Lvalue.{Lvalue}
use Rattle.sv_flat.specs.declared.stmt.Stmt.{Stmt}
use Rattle.sv_flat.specs.declared.stmt.Form.{Form}
use Rattle.sv_flat.specs.declared.stmt.Form.TheVariants as form
use Rattle.sv_flat.specs.declared.design.Parts.{Parts}
use Rattle.sv_flat.specs.State.{View, Name}
use Rattle.sv_flat.specs.Eval.{with_result}
use Rattle.sv_flat.specs.Process.{Todo, Do, Leave, Return, routine_of}
use Rattle.sv_flat.specs.Statements.Routines.{outputs_of, result_given, variable_value}
use Rattle.sv_flat.specs.Statements.Shared.{Effects, Site, written}
use Rattle.sv_flat.specs.Targets.{spots_of, target_values}

-- ---- which call it is

-- the call that a statement is
abbrev pub call_of_form : Form → Option Call
call_of_form (form.Call c) = Some c
call_of_form f = None

-- the call of this number before a statement, or without a number the call that it is
abbrev pub call_in : Stmt → Option ℕ → Option Call
call_in s None = call_of_form s.form
call_in s (Some n) = slice_get s.calls n

-- ---- what is left of a statement

-- the scope that the expressions of a statement see: where it has calls, the activation of its hidden variables
abbrev pub seen_from : (outer hidden : Option Name) → Option Name
seen_from outer None = outer
seen_from outer (Some n) = Some n

-- a statement, of whose calls so many were made
abbrev pub called_at : Option Stmt → ℕ → (outer hidden : Option Name) → List Todo
called_at None n outer hidden = []
called_at (Some s) n outer hidden = Do s (drop n s.calls) outer hidden ∷ []

-- what is left of a statement after one of its calls: nothing of a call that is a statement itself
abbrev pub left_after : Option Stmt → Option ℕ → (outer hidden : Option Name) → List Todo
left_after s None outer hidden = []
left_after s (Some n) outer hidden = called_at s (n + 1) outer hidden

-- ---- the end of a call

-- what the end of a call of a subroutine does
abbrev pub return_of : Subroutine → List Argument → (hidden : Option ℕ) → (callee caller : Option Name) → Return
return_of s as' hidden callee caller =
    record { outputs = outputs_of s.formals as'; given = result_given s.result; hidden = hidden; callee = callee; caller = caller }

-- the end of a call of a routine that may be a subroutine
abbrev pub end_of_routine : Place → (hidden : Option ℕ) → List Argument → (callee caller : Option Name) → Option Subroutine → List Todo
end_of_routine at hidden as' callee caller None = []
end_of_routine at hidden as' callee caller (Some s) = Leave at (return_of s as' hidden callee caller) ∷ []

-- the end of a call, by its form
abbrev pub end_of_form : Parts → Place → (hidden : Option ℕ) → CallForm → (callee caller : Option Name) → List Todo
end_of_form d at hidden (call.Routine r None as') callee caller = end_of_routine at hidden as' callee caller (routine_of d r).subroutine
end_of_form d at hidden f callee caller = []

-- the end of a call at a place
abbrev pub end_of_call : Parts → Place → Option Call → (callee caller : Option Name) → List Todo
end_of_call d at None callee caller = []
end_of_call d at (Some c) callee caller = end_of_form d at c.result c.form callee caller

-- the end of a call of the statement that stands somewhere
abbrev pub end_at : Parts → Option Stmt → Option ℕ → (callee caller : Option Name) → List Todo
end_at d None n callee caller = []
end_at d (Some s) n callee caller = end_of_call d s.at (call_in s n) callee caller

-- ---- where a call runs

-- a call of a statement, whose arguments see this from a scope, and what is left after it
abbrev pub site_of : Stmt → Call → View → (scope : Option Name) → (next : Name) → List Todo → Site
site_of s c v scope next rest = record { at = s.at; view = v; scope = scope; next = next; hidden = c.result; rest = rest }

-- the writes of an output
abbrev pub output_writes : Variable → List Lvalue → (callee caller : View) → Result Effects FaultKind
output_writes x ts callee caller = with_result (spots_of ts caller) (λ ss. Ok (written ss (target_values ts (variable_value x callee))))
