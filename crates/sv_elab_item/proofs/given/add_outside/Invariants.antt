use Rattle.std.proofs.Common.{◌≡◌, List, drop, map}
use Rattle.sv_tree.specs.UnitView.{description}
use Rattle.sv_names.specs.declared.checked.Checked.{Checked}
use Rattle.sv_names.specs.Items.{GivenParts}
use Rattle.sv_names.specs.Joined.{joined}
use Rattle.sv_names.specs.Views.{around_in}
use Rattle.sv_elab_parts.specs.Adding.{AddingAll}
use Rattle.sv_elab_scope.specs.Rows.{group_in}
use Rattle.sv_elab_item.specs.Given.{all_described, outside_given}
use Rattle.sv_elab_item.proofs.given.add_outside.Given as goal

abbrev pub invariant-loop-one : goal.invariant-loop-one
invariant-loop-one l =
    (c : Checked (List GivenParts)) × AddingAll l.fn.so_far l.so_far l.done c
    × (joined c (all_described (around_in l.files) (map description (drop l.one-index l.units)))
    ≡ outside_given (map description l.units) (around_in l.files) (group_in l.group))
