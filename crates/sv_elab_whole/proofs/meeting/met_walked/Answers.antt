-- What is seen in the instance of the step.
use Rattle.std.proofs.Common.{◌≡◌, ◌∙◌, ◌++◌, ◌∷◌, List, map, sym, ap}
use Rattle.sv_tree.specs.Descriptions.{Description}
use Rattle.sv_tree.specs.UnitView.{item}
use Rattle.sv_names.specs.Instances.{around_unit}
use Rattle.sv_names.specs.Items.{around_inst, default_in}
use Rattle.sv_names.specs.Named.{Around}
use Rattle.sv_names.specs.Sources.{met}
use Rattle.sv_names.specs.Views.{around_in}
use Rattle.sv_elab_scope.specs.Rows.{group_in}
use Rattle.sv_elab_walk.specs.Insts.{inst_in, walked_in}
use Rattle.sv_elab_whole.proofs.MeetLaws.{step_met, met_also}
use Rattle.sv_elab_whole.proofs.meeting.met_walked.Goals as goal

pub returns-in_ok-scopes-in-Some : goal.returns-in_ok-scopes-in-Some
returns-in_ok-scopes-in-Some c =
    let ar = around_in c.args.files.now in
    let w = walked_in c.args.step.now in
    let inst = c.in-Some.inst.now in
    let i = inst_in inst in
    let g = group_in inst.group in
    let sees = c.in_ok-scopes-in-Some.ensures in
    let scopes : map (λ x. x.now) c.as_slice-in-Some.result.now ≡ g.scope ∷ ar.scopes =
    ap (map (λ x. x.now)) c.as_slice-in-Some.ensures.value ∙ sees.0 in
    let classes : map (λ k. k.now) c.as_slice-in-Some-2.result.now ≡ ar.classes ++ g.classes =
    ap (map (λ k. k.now)) c.as_slice-in-Some-2.ensures.value ∙ sees.1 in
    let clocking = c.default_in.ensures ∙ ap (λ is. default_in g (map item is)) c.as_slice-in-Some-3.ensures.value in
    let seen = record c.around_unit-outer.result {
      scopes = c.as_slice-in-Some.result;
      classes = c.as_slice-in-Some-2.result;
      default_clocking = c.default_in.result;
    } in
    let around : (us : List Description) → around_in seen ≡ around_inst us ar i =
    λ us.
    let unit = c.around_unit-outer.ensures us ∙ ap (around_unit us ar i.unit) c.as_slice.ensures in
    λ j. record (unit j) { scopes = scopes j; classes = classes j; default_clocking = clocking j } in
    met_also c.met_step-in-Some.result (met (λ j. around_in seen) w) (λ us. met (around_inst us ar) w)
    (λ us. ap (λ (a : Around). met (λ j. a) w) (around us) ∙ step_met (around_inst us ar) w i (sym c.in-Some.ensures))
    c.met_step-in-Some.ensures
