use Rattle.std.proofs.Common.{◌≡◌, ◌-◌, drop, length}
use Rattle.sv_names.specs.Types.{position_of}
use Rattle.sv_names.proofs.path_index.position_from.Given as goal

abbrev pub invariant-loop-position : goal.invariant-loop-position
invariant-loop-position l = position_of l.position l.path (drop l.position l.paths) ≡ position_of l.first l.path (drop l.first l.paths)

abbrev pub decreases-loop-position : goal.decreases-loop-position
decreases-loop-position l = length l.paths - l.position
