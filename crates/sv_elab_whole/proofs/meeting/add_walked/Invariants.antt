use Rattle.std.proofs.Common.{◌≡◌, ◌++◌, List, map, length}
use Rattle.sv_tree.specs.Descriptions.{Description}
use Rattle.sv_names.specs.Items.{around_inst}
use Rattle.sv_names.specs.Sources.{met}
use Rattle.sv_names.specs.Views.{around_in}
use Rattle.sv_elab_walk.specs.Insts.{walked_in}
use Rattle.sv_elab_writers.specs.Views.{met_in}
use Rattle.sv_elab_whole.proofs.meeting.add_walked.Given as goal

abbrev pub invariant-loop-left : goal.invariant-loop-left
invariant-loop-left l =
    (us : List Description) → map met_in l.mets ++ map (met (around_inst us (around_in l.files))) (map walked_in l.left)
    ≡ map met_in l.initial.mets ++ map (met (around_inst us (around_in l.files))) (map walked_in l.walked)

abbrev pub decreases-loop-left : goal.decreases-loop-left
decreases-loop-left l = length l.left
