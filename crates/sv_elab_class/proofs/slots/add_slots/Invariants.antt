use Rattle.std.proofs.Common.{◌≡◌, map, length}
use Rattle.sv_tree.specs.UnitView.{class_item}
use Rattle.sv_names.specs.Groups.{slots_over}
use Rattle.sv_elab_class.proofs.slots.add_slots.Given as goal

abbrev pub invariant-loop-left : goal.invariant-loop-left
invariant-loop-left l = slots_over l.slots (map class_item l.left) ≡ slots_over l.initial.slots (map class_item l.items)

abbrev pub decreases-loop-left : goal.decreases-loop-left
decreases-loop-left l = length l.left
