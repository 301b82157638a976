-- The parts of an instance.
use Rattle.std.proofs.Common.{◌≡◌, ℕ, List, ◌∷◌, map, subst, ap, ◌∙◌}
use Rattle.sv_tree.specs.declared.unit.Description.{Description}
use Rattle.sv_tree.specs.UnitView.{description}
use Rattle.sv_names.specs.Instances.{around_unit}
use Rattle.sv_names.specs.Named.{Around}
use Rattle.sv_names.specs.Types.{Path}
use Rattle.sv_names.specs.Views.{around_in}
use Rattle.sv_elab_scope.specs.Rows.{group_in}
use Rattle.sv_elab_unit.specs.Definitions.{definition_in, names_in}
use Rattle.sv_elab_walk.specs.Givens.{kept_in}
use Rattle.sv_elab_walk.specs.Grounds.{IsBody, units_in, files_in}
use Rattle.sv_elab_walk.proofs.making.inst_of.Goals as goal

pub returns : goal.returns
returns c =
    let us = units_in c.args.ground.now in
    let files = files_in c.args.ground.now in
    let d = definition_in c.args.unit in
    let gs = kept_in c.args.kept.now in
    let g = group_in c.in_ok-body.body.group in
    let stands = c.in_ok-body.body.stands in
    let around : around_in c.around_unit-around.result ≡ around_unit us files d c.args.path =
    c.around_unit-around.ensures us ∙ ap (around_unit us files d) c.as_slice.ensures in
    let own = subst (λ (ds : List Description). IsBody (map description ds) (around_in c.around_unit-around.result)
    c.as_slice-2.result.now d.element gs g stands) c.all.ensures c.in_ok-body.ensures in
    let here = subst (λ (p : Path). IsBody us (around_in c.around_unit-around.result) p d.element gs g stands) c.as_slice-2.ensures own in
    let body = subst (λ (ar : Around). IsBody us ar c.args.path d.element gs g stands) around here in
    λ i. record {
      path = c.args.path;
      unit = d;
      at = c.args.at;
      chain = (c.in_ok-chain.ensures ∙ ap (λ (x : List ℕ). x ∷ names_in c.args.chain.now) c.bytes-name.ensures) i;
      group = body.settled i;
      stands = body.names i;
    }
