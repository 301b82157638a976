-- An instance in another.
use Rattle.std.proofs.Common.{◌≡◌, List, [], ◌∷◌, ◌++◌, map, refl, ap, ◌∙◌}
use Rattle.std.specs.Borrow.{Bor}
use Rattle.sv_tree.specs.UnitView.{connection}
use Rattle.sv_names.specs.declared.around.ClassInfo.{ClassInfo}
use Rattle.sv_names.specs.declared.scope.Scope.{Scope}
use Rattle.sv_names.specs.Instances.{around_unit, givens_from, inst_of, param_names, within_inst}
use Rattle.sv_names.specs.Types.{Path}
use Rattle.sv_elab_unit.specs.Definitions.{definition_in, names_in}
use Rattle.sv_elab_walk.specs.Givens.{kept_in}
use Rattle.sv_elab_walk.specs.Grounds.{units_in, files_in}
use Rattle.sv_elab_walk.specs.Insts.{inst_in}
use Rattle.sv_elab_walk.proofs.SeenLaws.{within_unit}
use Rattle.sv_elab_walk.proofs.making.child.Goals as goal

pub returns : goal.returns
returns c =
    let us = units_in c.args.ground.now in
    let files = files_in c.args.ground.now in
    let i = inst_in c.args.of.now in
    let d = definition_in c.args.unit in
    let cs = map connection c.args.params.now in
    let unit = c.around_unit-outer.ensures us ∙ ap (around_unit us files i.unit) c.as_slice.ensures in
    let scopes = ap (λ (ss : List (Bor Scope)). map (λ s. s.now) ss)
    c.as_slice-2.ensures.value ∙ c.in_ok-scopes.ensures.0 in
    let classes = ap (λ (ks : List (Bor ClassInfo)). map (λ k. k.now) ks)
    c.as_slice-3.ensures.value ∙ c.in_ok-scopes.ensures.1 in
    let seen = record c.around_unit-outer.result { scopes = c.as_slice-2.result; classes = c.as_slice-3.result } in
    let inside = within_unit us files i c.around_unit-outer.result seen unit refl (scopes, classes) in
    let names = ap names_in c.as_slice-4.ensures ∙ c.in_ok-names.ensures in
    let givens : kept_in c.as_slice-7.result.now ≡ givens_from (within_inst us files i) (param_names d.element) 0 cs =
    ap kept_in c.as_slice-7.ensures ∙ c.in_ok-kept.ensures ∙ (λ j. givens_from (inside j) (names j) 0 cs) in
    let path : c.in_ok-path.path ≡ i.path ++ c.args.one.now.name.text ∷ [] =
    c.in_ok-path.ensures ∙ ap (λ (p : Path). p ++ c.args.one.now.name.text ∷ []) c.as_slice-5.ensures in
    c.in_ok-inst.ensures
    ∙ (λ j. inst_of us files (path j) (names_in (c.as_slice-6.ensures j)) c.args.one.now.name.at d (givens j))
