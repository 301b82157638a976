use Rattle.std.proofs.Common.{◌≡◌, drop}
use Rattle.sv_flat.specs.Targets.{spots_of}
use Rattle.sv_assign.specs.Places.{spots_in}
use Rattle.sv_assign.proofs.SpotLaws.{gone_on}
use Rattle.sv_assign.proofs.targets.spots_of.Given as goal

abbrev pub invariant-loop-target : goal.invariant-loop-target
invariant-loop-target g l =
    gone_on (spots_in l.found.items) (spots_of (drop l.target-index l.targets) (g.V.Values.view l.values)) ≡ spots_of l.targets (g.V.Values.view l.values)
