-- The names of an instance, its classes, and the two settled.
use Rattle.std.proofs.Common.{List, map, refl, ap, ◌∙◌}
use Rattle.sv_tree.specs.UnitView.{description, design_element, item}
use Rattle.sv_names.specs.Groups.{heads_of, settled_group}
use Rattle.sv_names.specs.Instances.{Givens, file_entries, names_stand, unit_entries}
use Rattle.sv_names.specs.Views.{around_in}
use Rattle.sv_elab_class.specs.declared.heads.ClassHead.{ClassHead}
use Rattle.sv_elab_class.specs.Heads.{head_in}
use Rattle.sv_elab_declare.specs.Given.{givens_in}
use Rattle.sv_elab_scope.specs.Rows.{group_in}
use Rattle.sv_elab_scope.specs.Views.{entry_in}
use Rattle.sv_elab_walk.specs.Givens.{kept_in}
use Rattle.sv_elab_walk.proofs.BodyLaws.{body_made}
use Rattle.sv_elab_walk.proofs.making.body_of.Goals as goal

pub returns : goal.returns
returns c =
    let us = map description c.args.units.now in
    let ar = around_in c.args.around.now in
    let p = c.args.path.now in
    let u = design_element c.args.element.now in
    let es = map entry_in c.in_ok-names.names in
    body_made us ar p u (kept_in c.args.kept.now) es (map head_in c.in_ok-heads.heads) (group_in c.in_ok-group.group)
    c.in_ok-stands.stands
    (c.in_ok-names.ensures refl ∙ ap (λ (gs : Givens). unit_entries p u gs) (ap givens_in c.as_slice.ensures ∙ c.in_ok-givens.ensures))
    (c.in_ok-heads.ensures
    ∙ (λ i. heads_of p (map entry_in (c.as_slice-2.ensures i)) (file_entries us) (map item (c.as_slice-items.ensures.value i))))
    (c.in_ok-group.ensures ∙ ap (λ (hs : List ClassHead). settled_group ar p es (map head_in hs)) c.as_slice-5.ensures)
    (c.in_ok-stands.ensures ∙ (λ i. names_stand (map entry_in (c.as_slice-3.ensures i)) (map head_in (c.as_slice-4.ensures i))))
