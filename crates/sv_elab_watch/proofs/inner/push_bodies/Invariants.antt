use Rattle.std.proofs.Common.{◌≡◌, ◌++◌, length, map}
use Rattle.sv_elab_watch.proofs.inner.push_bodies.Given as goal

abbrev pub invariant-loop-left : goal.invariant-loop-left
invariant-loop-left l = l.ids ++ map (λ a. a.body) l.left ≡ l.initial.ids ++ map (λ a. a.body) l.items

abbrev pub decreases-loop-left : goal.decreases-loop-left
decreases-loop-left l = length l.left
