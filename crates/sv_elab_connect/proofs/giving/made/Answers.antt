use Rattle.std.proofs.Common.{◌≡◌, List, ◌++◌, None, ap, subst, ◌∙◌}
use Rattle.std.specs.Prelude.{OnOk}
use Rattle.sv_flat.specs.declared.stmt.Form.{Form}
use Rattle.sv_names.specs.declared.checked.Checked.{Checked}
use Rattle.sv_names.specs.declared.checked.Checked.TheVariants.{Good}
use Rattle.sv_names.specs.declared.hoisted.Hoisted.{Hoisted}
use Rattle.sv_names.specs.Assignments.{given_to}
use Rattle.sv_names.specs.Checked.{◌▷◌}
use Rattle.sv_names.specs.Given.{Fails}
use Rattle.sv_names.specs.Targets.{Spot, type_of_target}
use Rattle.sv_names.specs.Types.{Path}
use Rattle.sv_names.specs.Values.{assigned}
use Rattle.sv_names.specs.Views.{around_in}
use Rattle.sv_elab_drive.specs.Driven.{nets_of}
use Rattle.sv_elab_drive.proofs.DrivenLaws.{made_fails}
use Rattle.sv_elab_connect.proofs.GivingLaws.{put_whole}
use Rattle.sv_elab_connect.proofs.giving.made.Goals as goal

pub returns-in-Ok : goal.returns-in-Ok
returns-in-Ok c =
    let ar = around_in c.args.around.now in
    let form : List Spot → Checked (Hoisted Form) = λ ss. assigned ar (type_of_target ss) c.args.place c.args.value ▷ given_to ar None ss in
    let driven = c.in_ok-driving.ensures in
    let nets = c.in_ok-nets.ensures ∙ ap (λ (ss : List Spot). nets_of ss) c.as_slice.ensures in
    put_whole ar c.args.at c.args.kind c.args.before.now c.args.spots c.put_process.new.before c.args.routines.now c.put_process.new.routines
    c.args.place c.args.value c.in-Ok.form c.put_process.result
    (subst (λ (ss : List Spot). form ss ≡ Good c.in-Ok.form) driven c.in-Ok.ensures)
    (subst (λ (ps : List Path). OnOk c.put_process.result (c.put_process.new.before ≡ c.args.before.now ++ ps)) nets c.put_process.ensures.drives)
    c.put_process.ensures.ok c.put_process.ensures.added c.put_process.ensures.err

pub returns-in-Err : goal.returns-in-Err
returns-in-Err c =
    let ar = around_in c.args.around.now in
    let form : List Spot → Checked (Hoisted Form) = λ ss. assigned ar (type_of_target ss) c.args.place c.args.value ▷ given_to ar None ss in
    let driven = c.in_ok-driving.ensures in
    made_fails ar c.args.at c.args.kind c.args.before.now c.args.spots c.args.before.now c.args.routines.now c.args.routines.now
    c.args.place c.args.value c.in-Err.e
    (subst (λ (ss : List Spot). Fails c.in-Err.e (form ss)) driven c.in-Err.ensures)
