use Rattle.std.proofs.Common.{◌≡◌, List, drop, map}
use Rattle.sv_flat.specs.declared.object.Object.{Object}
use Rattle.sv_tree.specs.UnitView.{class_item}
use Rattle.sv_names.specs.declared.checked.Checked.{Checked}
use Rattle.sv_names.specs.Joined as lists
use Rattle.sv_names.specs.Views.{around_in}
use Rattle.sv_elab_member.specs.Statics.{all_statics}
use Rattle.sv_elab_member.specs.Putting.{Placing}
use Rattle.sv_elab_member.proofs.statics.all_statics.Given as goal

abbrev pub invariant-loop-item : goal.invariant-loop-item
invariant-loop-item l =
    (c : Checked (List Object)) × Placing l.fn.objects l.objects l.done c
    × (lists.joined c (all_statics (around_in l.around) l.class (map class_item (drop l.item-index l.items)))
    ≡ all_statics (around_in l.around) l.class (map class_item l.items))
