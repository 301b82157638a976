-- What stands outside units, and then what is met on the walk.
use Rattle.std.proofs.Common.{List, map, subst}
use Rattle.sv_tree.specs.declared.unit.Description.{Description}
use Rattle.sv_tree.specs.UnitView.{description}
use Rattle.sv_names.specs.declared.checked.Checked.{Checked}
use Rattle.sv_names.specs.Items.{GivenParts}
use Rattle.sv_names.specs.Views.{around_in}
use Rattle.sv_elab_parts.specs.Adding.{AddingAll}
use Rattle.sv_elab_scope.specs.Rows.{group_in}
use Rattle.sv_elab_walk.specs.Insts.{walked_in}
use Rattle.sv_elab_item.specs.Given.{outside_given}
use Rattle.sv_elab_item.proofs.GivenListLaws.{all_given}
use Rattle.sv_elab_item.proofs.given.add_given.Goals as goal

pub returns : goal.returns
returns c =
    let us = map description c.args.units.now in
    let ar = around_in c.args.files.now in
    let g = group_in c.args.group.now in
    let x = c.args.so_far.now in
    let outside = subst (λ (ds : List Description). AddingAll x c.add_outside-done.new.so_far c.add_outside-done.result
    (outside_given (map description ds) ar g)) c.all.ensures c.add_outside-done.ensures in
    subst (λ (w : Checked (List GivenParts)). AddingAll x c.add_all_walked.new.so_far c.add_all_walked.result w)
    (all_given us ar g (map walked_in c.args.walked.now))
    (c.add_all_walked.ensures x (outside_given us ar g) outside)
