use Rattle.std.proofs.Common.{◌≡◌, length, map}
use Rattle.sv_names.specs.Instances.{roots_walk}
use Rattle.sv_elab_unit.specs.Definitions.{definition_in}
use Rattle.sv_elab_walk.specs.Insts.{all_walked}
use Rattle.sv_elab_walk.specs.Grounds.{units_in, files_in}
use Rattle.sv_elab_walk.specs.Frames.{goes_on}
use Rattle.sv_elab_walk.proofs.walk.walk_roots.Given as goal

abbrev pub invariant-loop-left : goal.invariant-loop-left
invariant-loop-left l =
    goes_on (all_walked l.walked) l.allowed (roots_walk (units_in l.ground) (files_in l.ground) l.most (map definition_in l.left))
    ≡ roots_walk (units_in l.ground) (files_in l.ground) l.most (map definition_in l.all) l.limit

abbrev pub decreases-loop-left : goal.decreases-loop-left
decreases-loop-left l = length l.left
