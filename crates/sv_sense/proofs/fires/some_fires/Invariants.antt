use Rattle.std.proofs.Common.{◌≡◌, drop}
use Rattle.sv_flat.specs.Woken.{Changed, some_fires}
use Rattle.sv_sense.proofs.fires.some_fires.Given as goal

-- the rest decides
abbrev pub invariant-loop-watch : goal.invariant-loop-watch
invariant-loop-watch g l =
    some_fires l.watches Changed (g.V.Values.view l.old) (g.W.Values.view l.new) ≡ some_fires (drop l.watch-index l.watches) Changed (g.V.Values.view l.old) (g.W.Values.view l.new)
