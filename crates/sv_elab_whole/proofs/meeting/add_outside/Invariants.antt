use Rattle.std.proofs.Common.{◌≡◌, ◌++◌, map, length}
use Rattle.sv_tree.specs.UnitView.{description}
use Rattle.sv_names.specs.Instances.{outside}
use Rattle.sv_names.specs.Sources.{met_outside}
use Rattle.sv_names.specs.Views.{around_in}
use Rattle.sv_elab_scope.specs.Rows.{group_in}
use Rattle.sv_elab_writers.specs.Views.{met_in}
use Rattle.sv_elab_whole.proofs.meeting.add_outside.Given as goal

abbrev pub invariant-loop-left : goal.invariant-loop-left
invariant-loop-left l =
    map met_in l.mets ++ map (met_outside (around_in l.files) (group_in l.group)) (outside (map description l.left))
    ≡ map met_in l.initial.mets ++ map (met_outside (around_in l.files) (group_in l.group)) (outside (map description l.units))

abbrev pub decreases-loop-left : goal.decreases-loop-left
decreases-loop-left l = length l.left
