use Rattle.std.proofs.Common.{None, ap}
use Rattle.std.specs.Prelude.{slice_set}
use Rattle.sv_sense.specs.Sensed.{Sensed}
use Rattle.sv_sense.proofs.SenseLaws.{covers_forgot}
use Rattle.sv_sense.proofs.sense.Sense.forget.Goals as goal

pub returns-clause-covers : goal.returns-clause-covers
returns-clause-covers c = λ d covers.
    covers_forgot d c.args.self.now _ c.args.process covers
    (ap (λ (s : Sensed). record s { waits = slice_set s.waits c.args.process.0 None }) c.self.view_is)
