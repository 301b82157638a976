use Rattle.std.proofs.Common.{◌≡◌}
use Rattle.sv_names.specs.Instances.{stays, walk}
use Rattle.sv_elab_walk.specs.Insts.{inst_in, all_walked}
use Rattle.sv_elab_walk.specs.Grounds.{units_in, files_in}
use Rattle.sv_elab_walk.specs.Frames.{goes_on, behind}
use Rattle.sv_elab_walk.proofs.walk.walk_inst.Given as goal

abbrev pub invariant-loop-frames : goal.invariant-loop-frames
invariant-loop-frames l =
    goes_on (all_walked l.walked) l.left (behind (units_in l.ground) (files_in l.ground) l.frames.items stays)
    ≡ goes_on (all_walked l.fn.walked) l.limit (walk (units_in l.ground) (files_in l.ground) l.fn.most (inst_in l.fn.inst))

abbrev pub decreases-loop-frames : goal.decreases-loop-frames
decreases-loop-frames l = l.left
