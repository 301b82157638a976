-- A procedure stands behind what was there.
use Rattle.std.proofs.Common.{◌≡◌, ◌∙◌, ◌∷◌, ◌++◌, [], List, length, sym, ap, subst}
use Rattle.sv_flat.specs.declared.class.Routine.{Routine}
use Rattle.sv_flat.specs.declared.process.Process.{Process}
use Rattle.sv_tree.specs.UnitView.{procedure}
use Rattle.sv_names.specs.Checked.{given}
use Rattle.sv_names.specs.Items.{procedure_made, process_of}
use Rattle.sv_names.specs.Views.{around_in}
use Rattle.sv_elab_parts.specs.Adding.{Adds}
use Rattle.sv_elab_item.proofs.ProcedureLaws.{procedure_added}
use Rattle.sv_elab_item.proofs.procedures.add_procedure.Goals as goal

pub returns-in_ok-push-in-Ok-2 : goal.returns-in_ok-push-in-Ok-2
returns-in_ok-push-in-Ok-2 c =
    let x = c.args.so_far.now in
    let ar = around_in c.args.around.now in
    let p = procedure c.args.of.now in
    let rs' = c.procedure_code-code.new.routines in
    let os' = c.procedure_code-code.new.objects in
    let code = c.in-Ok.ensures in
    let made = procedure_made ar p code.0 in
    let last : Process = process_of ar p (record { 0 = length rs' }) in
    let processes : c.push-in-Ok.new.self ≡ x.processes ++ last ∷ [] =
    c.in_ok-push-in-Ok-2.ensures.ok
    ∙ ap (λ (q : Process). x.processes ++ q ∷ [])
    (c.in_ok-process-in-Ok.ensures ∙ ap (λ (l : List Routine). process_of ar p (record { 0 = length l })) c.as_slice.ensures) in (
      made,
      ap (given (procedure_made ar p)) code.1,
      subst (λ (ps : List Process). Adds x (record x { objects = os'; routines = c.push.new.self; processes = ps }) made) (sym processes)
          (subst (λ (rs : List Routine). Adds x (record x { objects = os'; routines = rs; processes = x.processes ++ last ∷ [] }) made)
          (sym c.in_ok-push-in-Ok.ensures.ok) (procedure_added x ar p rs' os' c.in-Ok.body code.0 code.2)),
    )
