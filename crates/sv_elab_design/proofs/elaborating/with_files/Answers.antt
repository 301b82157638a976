-- What is walked over the scope of the files.
use Rattle.std.proofs.Common.{◌≡◌, ◌∙◌, List, ◌∷◌, [], map, option_map, refl, ap, subst}
use Rattle.sv_tree.specs.declared.unit.Description.{Description}
use Rattle.sv_tree.specs.UnitView.{description}
use Rattle.sv_names.specs.Design.{design_over, no_numbers}
use Rattle.sv_names.specs.Given.{Gives}
use Rattle.sv_names.specs.Instances.{nowhere_around, file_around, file_group, walked}
use Rattle.sv_names.specs.Named.{Around}
use Rattle.sv_names.specs.Types.{Numbers}
use Rattle.sv_names.specs.Views.{around_in}
use Rattle.sv_elab_scope.specs.Rows.{group_in}
use Rattle.sv_elab_walk.specs.Insts.{walked_in}
use Rattle.sv_elab_whole.specs.Walks.{settled_files}
use Rattle.sv_elab_design.proofs.ElaboratingLaws.{files_seen}
use Rattle.sv_elab_design.proofs.elaborating.with_files.Goals as goal

pub returns : goal.returns
returns c =
    let us = map description c.args.units.now in
    let s = c.args.scale in
    let top = option_map (λ x. x.now) c.args.top in
    let g = group_in c.in_ok-group.group in
    let seen = record c.nowhere-outer.result { scopes = c.as_slice.result; classes = c.as_slice-2.result } in
    let scopes : map (λ x. x.now) c.as_slice.result.now ≡ g.scope ∷ [] = ap (map (λ x. x.now)) c.as_slice.ensures.value ∙ c.in_ok-scopes.ensures in
    let classes : map (λ k. k.now) c.as_slice-2.result.now ≡ g.classes = ap (map (λ k. k.now)) c.as_slice-2.ensures.value ∙ c.in_ok-classes.ensures in
    let nowhere : around_in c.nowhere-outer.result ≡ nowhere_around no_numbers s =
    c.nowhere-outer.ensures refl refl ∙ ap (λ (ns : Numbers). nowhere_around ns s) c.in_ok-numbers.ensures in
    let files : around_in seen ≡ file_around no_numbers s g = files_seen no_numbers s g c.nowhere-outer.result seen nowhere refl scopes classes in
    let group : g ≡ file_group no_numbers s us = c.in_ok-group.ensures
    ∙ ap (λ (ds : List Description). settled_files (around_in c.nowhere-outer.result) (map description ds)) c.all.ensures
    ∙ ap (λ (ar : Around). settled_files ar us) nowhere in
    let walk : map walked_in c.as_slice-3.result.now ≡ walked us (file_around no_numbers s (file_group no_numbers s us)) top =
    ap (map walked_in) c.as_slice-3.ensures ∙ c.in_ok-walked.ensures
    ∙ ap (λ (ar : Around). walked us ar top) (files ∙ ap (file_around no_numbers s) group) in
    subst (λ x. Gives c.design_over.result x) (λ j. design_over s us (group j) (walk j)) (c.design_over.ensures files)
