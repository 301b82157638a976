use Rattle.std.proofs.Common.{◌≡◌, drop}
use Rattle.sv_flat.specs.State.{View}
use Rattle.sv_flat.specs.Woken as woken
use Rattle.sv_flat.specs.Woken.{Changed}
use Rattle.sv_sense.specs.Told.{IsSeen}
use Rattle.sv_sense.proofs.told.some_fires.Given as goal

-- the rest decides
abbrev pub invariant-loop-watch : goal.invariant-loop-watch
invariant-loop-watch l =
    (old new : View) → IsSeen l.transition old new → woken.some_fires l.watches Changed old new ≡ woken.some_fires (drop l.watch-index l.watches) Changed old new
