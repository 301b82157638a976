-- A process stands behind the others.
use Rattle.std.proofs.Common.{◌∷◌, [], List, Ok, sym, ap, subst}
use Rattle.sv_flat.specs.declared.process.Process.{Process as process}
use Rattle.sv_names.specs.Checked.{given}
use Rattle.sv_elab_drive.specs.Making.{EmitsProcess}
use Rattle.sv_elab_plain.specs.Adding.{AreProcesses}
use Rattle.sv_elab_plain.proofs.ProcessLaws.{one_process}
use Rattle.sv_elab_plain.proofs.processes.add_made.Goals as goal

pub returns-in_ok-push-in-Ok : goal.returns-in_ok-push-in-Ok
returns-in_ok-push-in-Ok c = λ rs rs' b b' part emits.
    let first : EmitsProcess b b' rs rs' (Ok c.in-Ok.process) part = subst (λ r. EmitsProcess b b' rs rs' r part) c.in-Ok.is emits in (
      first.0 ∷ [],
      ap (given (λ m. m ∷ [])) first.1,
      subst (λ (ps : List process). AreProcesses c.args.processes.now ps rs rs' b b' (first.0 ∷ [])) (sym c.in_ok-push-in-Ok.ensures.ok)
          (one_process c.args.processes.now rs rs' b b' c.in-Ok.process first.0 first.2),
    )
