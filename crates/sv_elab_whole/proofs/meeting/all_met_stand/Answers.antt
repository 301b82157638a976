-- What is met outside units and on the walk.
use Rattle.std.proofs.Common.{rules, ◌≡◌, ◌++◌, ◌∙◌, List, map, ap, subst}
use Rattle.std.specs.Prelude.{flat_map}
use Rattle.sv_tree.specs.UnitView.{description}
use Rattle.sv_names.specs.Design as design
use Rattle.sv_names.specs.Given.{Gives}
use Rattle.sv_names.specs.Instances as instances
use Rattle.sv_names.specs.Items.{around_inst}
use Rattle.sv_names.specs.Sources.{Met, met, met_outside, initialized}
use Rattle.sv_names.specs.Views.{around_in}
use Rattle.sv_names.specs.declared.checked.Checked.{Checked}
use Rattle.sv_elab_scope.specs.Rows.{group_in}
use Rattle.sv_elab_walk.specs.Insts.{walked_in}
use Rattle.sv_elab_writers.specs.Processes.{met_stand}
use Rattle.sv_elab_writers.specs.Views.{met_in, initialized_in}
use Rattle.sv_elab_whole.proofs.meeting.all_met_stand.Goals as goal

pub returns : goal.returns
returns c =
    let us = map description c.args.units.now in
    let ar = around_in c.args.files.now in
    let g = group_in c.args.group.now in
    let ws = map walked_in c.args.walked.now in
    let classes : map (λ k. k.now) c.as_slice.result.now ≡ design.class_infos g ws = search rules in
    let outside : map met_in c.add_outside.new.mets ≡ map (met_outside ar g) (instances.outside us) = search rules in
    let mets : map met_in c.as_slice-2.result.now ≡ design.all_met us ar g ws =
    ap (map met_in) c.as_slice-2.ensures
    ∙ c.in_ok-add_walked.ensures us
    ∙ ap (λ (l : List Met). l ++ map (met (around_inst us ar)) ws) outside in
    let variables : map initialized_in c.as_slice-3.result.now ≡ flat_map initialized ws = search rules in
    subst (λ (x : Checked (Unit {0})). Gives c.met_stand.result x) (λ j. met_stand (classes j) (mets j) (variables j)) c.met_stand.ensures
