use Rattle.std.proofs.Common.{subst}
use Rattle.std.specs.Prelude.{Result}
use Rattle.sv_value.specs.declared.place.FaultKind.{FaultKind}
use Rattle.sv_flat.specs.Process.{Spot}
use Rattle.sv_assign.specs.Places.{Answers, spot_in}
use Rattle.sv_assign.proofs.SpotLaws.{spot_of-part}
use Rattle.sv_assign.proofs.targets.any_spot_of.Goals as goal

pub returns-in-Some-part : goal.returns-in-Some-part
returns-in-Some-part g c =
    subst (λ (r : Result Spot FaultKind). Answers spot_in c.in_part.result r)
    (spot_of-part c.args.target.now (g.V.Values.view c.args.values.now) c.in-Some-part.part c.in-None.is c.in-Some-part.is)
    (c.in_part.ensures _ _ c.place_of-in-Some-part.ensures (c.range.ensures _ c.value.ensures))
