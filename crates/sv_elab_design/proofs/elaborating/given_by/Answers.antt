-- What all items give, as it is seen outside units with these numbers.
use Rattle.std.proofs.Common.{◌≡◌, ◌∙◌, ◌∷◌, [], map, refl, ap, subst}
use Rattle.sv_tree.specs.UnitView.{description}
use Rattle.sv_names.specs.Design.{given_parts}
use Rattle.sv_names.specs.Instances.{file_around}
use Rattle.sv_names.specs.Named.{Around}
use Rattle.sv_names.specs.Views.{around_in, numbers_in}
use Rattle.sv_elab_scope.specs.Rows.{group_in}
use Rattle.sv_elab_walk.specs.Insts.{walked_in}
use Rattle.sv_elab_whole.specs.Collected.{GivesParts}
use Rattle.sv_elab_design.proofs.ElaboratingLaws.{files_seen}
use Rattle.sv_elab_design.proofs.elaborating.given_by.Goals as goal

pub returns : goal.returns
returns c =
    let g = group_in c.args.group.now in
    let numbers = numbers_in c.args.numbers.now in
    let seen = record c.nowhere-outer.result { scopes = c.as_slice.result; classes = c.as_slice-2.result } in
    let scopes : map (λ x. x.now) c.as_slice.result.now ≡ g.scope ∷ [] = ap (map (λ x. x.now)) c.as_slice.ensures.value ∙ c.in_ok-scopes.ensures in
    let classes : map (λ k. k.now) c.as_slice-2.result.now ≡ g.classes = ap (map (λ k. k.now)) c.as_slice-2.ensures.value ∙ c.in_ok-classes.ensures in
    let files : around_in seen ≡ file_around numbers c.args.scale g =
    files_seen numbers c.args.scale g c.nowhere-outer.result seen (c.nowhere-outer.ensures refl refl) refl scopes classes in
    subst (λ (ar : Around). GivesParts c.args.places c.given_with.result
    (given_parts (map description c.args.units.now) ar g (map walked_in c.args.walked.now))) files c.given_with.ensures
