use Rattle.std.proofs.Common.{◌≡◌, [], take, map}
use Rattle.sv_sense.proofs.sense.unwatched.Given as goal

abbrev pub invariant-loop-object : goal.invariant-loop-object
invariant-loop-object l = l.watchers.items ≡ map (λ o. []) (take l._object-index l.objects)
