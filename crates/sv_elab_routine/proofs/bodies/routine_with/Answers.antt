-- The objects of its own stand before those of its statements.
use Rattle.std.proofs.Common.{List, ◌++◌, Result, ap, subst}
use Rattle.sv_flat.specs.declared.stmt.Stmt.{Stmt}
use Rattle.sv_names.specs.declared.refusal.Refusal.{Refusal}
use Rattle.sv_names.specs.Checked.{given}
use Rattle.sv_names.specs.Code.{Code, with_objects}
use Rattle.sv_names.specs.Emits.{Emits}
use Rattle.sv_names.specs.Subroutines.{routine_at}
use Rattle.sv_elab_routine.proofs.BodyLaws.{routine_made}
use Rattle.sv_elab_routine.proofs.bodies.routine_with.Goals as goal

pub returns-in-Ok : goal.returns-in-Ok
returns-in-Ok c = λ rs rs' os own os' x e.
    let at = c.args.at in
    let s = c.args.subroutine in
    let body = subst (λ (r : Result (List Stmt) Refusal). Emits rs rs' (os ++ own) os' r x) c.in-Ok.is e in (
      routine_at at s (with_objects own body.0),
      ap (given (λ (y : Code). routine_at at s (with_objects own y))) body.1,
      routine_made at s rs rs' os own os' c.in-Ok.body body.0 body.2,
    )
