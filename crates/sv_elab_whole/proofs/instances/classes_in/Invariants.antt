use Rattle.std.proofs.Common.{◌≡◌, ◌++◌, map, length}
use Rattle.sv_names.specs.Design.{class_infos}
use Rattle.sv_elab_scope.specs.Rows.{group_in}
use Rattle.sv_elab_walk.specs.Insts.{walked_in}
use Rattle.sv_elab_whole.proofs.InstanceLaws.{unit_classes}
use Rattle.sv_elab_whole.proofs.instances.classes_in.Given as goal

abbrev pub invariant-loop-left : goal.invariant-loop-left
invariant-loop-left l =
    map (λ k. k.now) l.list.items ++ unit_classes (group_in l.files) (map walked_in l.left)
    ≡ class_infos (group_in l.files) (map walked_in l.walked)

abbrev pub decreases-loop-left : goal.decreases-loop-left
decreases-loop-left l = length l.left
