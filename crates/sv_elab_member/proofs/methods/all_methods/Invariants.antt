use Rattle.std.proofs.Common.{◌≡◌, List, drop, map}
use Rattle.sv_names.specs.Subroutines.{MadeSubroutine}
use Rattle.sv_tree.specs.UnitView.{class_item}
use Rattle.sv_names.specs.declared.checked.Checked.{Checked}
use Rattle.sv_names.specs.Joined as lists
use Rattle.sv_names.specs.Views.{around_in}
use Rattle.sv_elab_member.specs.Methods.{all_methods}
use Rattle.sv_elab_member.specs.Putting.{Putting}
use Rattle.sv_elab_member.proofs.methods.all_methods.Given as goal

abbrev pub invariant-loop-item : goal.invariant-loop-item
invariant-loop-item l =
    (c : Checked (List MadeSubroutine)) × Putting l.fn.so_far l.so_far l.done c
    × (lists.joined c (all_methods (around_in l.around) l.class (map class_item (drop l.item-index l.items)))
    ≡ all_methods (around_in l.around) l.class (map class_item l.items))
