-- The table of all forms.
use Rattle.std.proofs.Common.{◌≡◌, List, Option, None, Some, ap, subst, sym}
use Rattle.std.specs.Prelude.{Result}
use Rattle.sv_value.specs.declared.number.ProcessId.{ProcessId}
use Rattle.sv_flat.specs.declared.call.Call.{Call}
use Rattle.sv_flat.specs.declared.design.Parts.{Parts}
use Rattle.sv_flat.specs.declared.stmt.Stmt.{Stmt}
use Rattle.sv_flat.specs.declared.stmt.Form.{Form}
use Rattle.sv_flat.specs.declared.stmt.Form.TheVariants as form
use Rattle.sv_flat.specs.State.{View, Name}
use Rattle.sv_flat.specs.Process.{Todo}
use Rattle.sv_eval.specs.declared.stopped.Stopped.{Stopped}
use Rattle.sv_stack.specs.declared.effect.Effect.{Effect as Own_effect}
use Rattle.sv_stack.specs.declared.frames.Frame.{Frame}
use Rattle.sv_stack.specs.Calls.{call_in, call_of_form}
use Rattle.sv_stack.specs.Effects.{Does}
use Rattle.sv_process.specs.Parts.{stmt_run}

-- a statement by its form
pub by_form : {A : Type 0} (d : Parts) (r : Result A Stopped) (fs : List Frame) (es : List Own_effect) (p : ProcessId) (next : Name) (outer scope : Option Name) (v : View) (s : Stmt)
    (f : Form) (rest : List Todo) → s.form ≡ f → Does d r fs es (stmt_run d p next outer scope v s f rest) → Does d r fs es (stmt_run d p next outer scope v s s.form rest)
by_form d r fs es p next outer scope v s f rest is h = subst (λ g. Does d r fs es (stmt_run d p next outer scope v s g rest)) (sym is) h

-- the call that a statement is
pub call_is : (s : Stmt) (c : Call) → s.form ≡ form.Call c → call_in s None ≡ Some c
call_is s c is = ap call_of_form is
