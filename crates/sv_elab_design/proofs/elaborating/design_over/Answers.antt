-- What all items give with the numbers that are foreseen, and then the design.
use Rattle.std.proofs.Common.{List, length, map, sym, subst}
use Rattle.sv_tree.specs.declared.unit.Description.{Description}
use Rattle.sv_tree.specs.UnitView.{description}
use Rattle.sv_names.specs.Checked.{◌where_also◌, ◌▷◌}
use Rattle.sv_names.specs.Design.{all_met, class_infos, foreseen, given_by, given_parts, met_stand, no_numbers}
use Rattle.sv_names.specs.Given.{Gives}
use Rattle.sv_names.specs.Instances.{file_around}
use Rattle.sv_names.specs.Named.{Around}
use Rattle.sv_names.specs.Types.{Numbers, Path}
use Rattle.sv_elab_scope.specs.Rows.{group_in}
use Rattle.sv_elab_walk.specs.Insts.{walked_in}
use Rattle.sv_elab_whole.specs.Collected.{GivesParts, IsGiven}
use Rattle.sv_elab_whole.specs.Numbering.{IsForeseen}
use Rattle.sv_elab_design.specs.Elaborating.{numbered_well}
use Rattle.sv_elab_design.proofs.ElaboratingLaws.{fails_then}
use Rattle.sv_elab_design.proofs.elaborating.design_over.Goals as goal

pub returns-in-Ok : goal.returns-in-Ok
returns-in-Ok c = λ files.
    let us = map description c.args.units.now in
    let s = c.args.scale in
    let g = group_in c.args.group.now in
    let ws = map walked_in c.args.walked.now in
    let n = length c.paths-places.result.now in
    let seen = subst (λ (ds : List Description). IsForeseen (map description ds) ws c.in_ok-numbers.numbers) c.all.ensures c.in_ok-numbers.ensures in
    let given = subst (λ (ns : Numbers). GivesParts n c.given_by-given.result (given_parts us (file_around ns s g) g ws))
    (seen.numbers (class_infos g ws)) c.given_by-given.ensures in
    let met = subst (λ (ds : List Description). Gives c.all_met_stand-met.result
    (met_stand g ws (all_met (map description ds) (file_around no_numbers s g) g ws))) c.all-2.ensures
    (subst (λ (ar : Around). Gives c.all_met_stand-met.result (met_stand g ws (all_met (map description c.all-2.result.now) ar g ws)))
    files c.all_met_stand-met.ensures) in
    let code = c.in-Ok.ensures n (given_by s us g ws (foreseen us ws)) (met_stand g ws (all_met us (file_around no_numbers s g) g ws)) given met in
    subst (λ x. Gives c.numbered_well.result (x ▷ numbered_well s us g ws)) (sym code.1)
    (c.numbered_well.ensures seen code.0 (subst (λ (rs : List Path). IsGiven (length rs) c.in-Ok.first code.0) c.paths-places.ensures code.2))

pub returns : goal.returns
returns c = λ files.
    let us = map description c.args.units.now in
    let s = c.args.scale in
    let g = group_in c.args.group.now in
    let ws = map walked_in c.args.walked.now in
    let n = length c.paths-places.result.now in
    let seen = subst (λ (ds : List Description). IsForeseen (map description ds) ws c.in_ok-numbers.numbers) c.all.ensures c.in_ok-numbers.ensures in
    let given = subst (λ (ns : Numbers). GivesParts n c.given_by-given.result (given_parts us (file_around ns s g) g ws))
    (seen.numbers (class_infos g ws)) c.given_by-given.ensures in
    let met = subst (λ (ds : List Description). Gives c.all_met_stand-met.result
    (met_stand g ws (all_met (map description ds) (file_around no_numbers s g) g ws))) c.all-2.ensures
    (subst (λ (ar : Around). Gives c.all_met_stand-met.result (met_stand g ws (all_met (map description c.all-2.result.now) ar g ws)))
    files c.all_met_stand-met.ensures) in
    let first = given_by s us g ws (foreseen us ws) in
    let rest = met_stand g ws (all_met us (file_around no_numbers s g) g ws) in
    fails_then (numbered_well s us g ws) (first where_also rest) c.in-Err.e (c.in-Err.ensures n first rest given met)
