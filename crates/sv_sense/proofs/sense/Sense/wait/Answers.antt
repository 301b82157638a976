use Rattle.std.proofs.Common.{Some, ap}
use Rattle.std.specs.Prelude.{slice_set}
use Rattle.sv_sense.specs.declared.waiter.Waiter.{Waiter}
use Rattle.sv_sense.specs.Sensed.{Sensed}
use Rattle.sv_sense.proofs.SenseLaws.{covers_wait}
use Rattle.sv_sense.proofs.sense.Sense.wait.Goals as goal

pub returns-clause-covers : goal.returns-clause-covers
returns-clause-covers c =
    let w : Waiter = record { wait = c.args.wait; scope = c.args.scope } in
    covers_wait c.args.design.now c.learn.new.self _ c.args.process w c.learn.ensures.covers c.in_ok-learn.ensures.ok
    (ap (λ (s : Sensed). record s { waits = slice_set s.waits c.args.process.0 (Some w) }) c.self.view_is)
