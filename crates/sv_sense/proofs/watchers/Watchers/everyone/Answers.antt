use Rattle.std.proofs.Common.{subst, sym}
use Rattle.sv_sense.specs.Watchers.{Ascends}
use Rattle.sv_sense.proofs.WatcherLaws.{ascends_all}
use Rattle.sv_sense.proofs.watchers.Watchers.everyone.Goals as goal

pub invariant_of-result : goal.invariant_of-result
invariant_of-result c = subst (Ascends 0) (sym c.loop-number.invariant) (ascends_all 0 c.loop-number.number)
