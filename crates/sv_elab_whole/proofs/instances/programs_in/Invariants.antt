use Rattle.std.proofs.Common.{◌≡◌, ◌++◌, map, length}
use Rattle.std.specs.Prelude.{flat_map}
use Rattle.sv_names.specs.Design.{instance_of, program_paths}
use Rattle.sv_elab_walk.specs.Insts.{walked_in}
use Rattle.sv_elab_whole.proofs.instances.programs_in.Given as goal

abbrev pub invariant-loop-left : goal.invariant-loop-left
invariant-loop-left l =
    l.list ++ program_paths (flat_map instance_of (map walked_in l.left))
    ≡ program_paths (flat_map instance_of (map walked_in l.walked))

abbrev pub decreases-loop-left : goal.decreases-loop-left
decreases-loop-left l = length l.left
