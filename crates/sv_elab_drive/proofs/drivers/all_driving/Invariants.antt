use Rattle.std.proofs.Common.{◌≡◌, ◌++◌, map}
use Rattle.sv_elab_drive.specs.Driven.{driving}
use Rattle.sv_elab_drive.proofs.drivers.all_driving.Given as goal

abbrev pub invariant-loop-spot : goal.invariant-loop-spot
invariant-loop-spot l = l.done ++ map (driving l.before) l.spot-iterator.rest.items ≡ map (driving l.before) l.fn.spots
