-- What a process waits for a change of (IEEE 1800-2017, 9.4.2, 9.4.3, 9.2.2.2 and 10.3).
use Rattle.std.specs.Prelude.{List, [], ◌∷◌, Option, None, Some}
use Rattle.sv_flat.specs.declared.process.Process.{Process}
use Rattle.sv_flat.specs.declared.process.Edge.TheVariants.{Change}
use Rattle.sv_flat.specs.declared.process.Watch.{Watch}
use Rattle.sv_flat.specs.declared.process.Watch.TheVariants.{On}
use Rattle.sv_flat.specs.declared.stmt.Stmt.{Stmt}
use Rattle.sv_flat.specs.declared.stmt.Form.{Form}
use Rattle.sv_flat.specs.declared.stmt.Form.TheVariants as form
use Rattle.sv_flat.specs.declared.design.Parts.{Parts}
use Rattle.sv_flat.specs.Config.{first_process}
use Rattle.sv_built.specs.declared.wait.Wait.{Wait}
use Rattle.sv_built.specs.declared.wait.Wait.TheVariants as wait
use Rattle.sv_built.specs.Positions.{stmt_at}

-- the event expressions of an event control
abbrev pub control_of : Form → List Watch
control_of (form.At ws) = ws
control_of f = []

-- a change of the condition of a `wait`
abbrev pub condition_of : Form → List Watch
condition_of (form.Wait e) = On e Change None ∷ []
condition_of f = []

-- what a form gives, where there is a statement
abbrev pub in_stmt : (Form → List Watch) → Option Stmt → List Watch
in_stmt f None = []
in_stmt f (Some s) = f s.form

-- what a process of the design watches after each run
abbrev pub watched_by : Option Process → List Watch
watched_by None = []
watched_by (Some q) = q.watched

-- the event expressions of which one must fire
abbrev pub watches_at : Parts → Wait → List Watch
watches_at d (wait.Control p) = in_stmt control_of (stmt_at d p)
watches_at d (wait.Condition p) = in_stmt condition_of (stmt_at d p)
watches_at d (wait.Watched p) = watched_by (first_process d p)
