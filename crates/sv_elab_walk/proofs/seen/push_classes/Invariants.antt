use Rattle.std.proofs.Common.{◌≡◌, ◌++◌, drop, map}
use Rattle.sv_elab_walk.proofs.seen.push_classes.Given as goal

abbrev pub invariant-loop-class : goal.invariant-loop-class
invariant-loop-class l =
    map (λ k. k.now) l.classes.items ++ drop l.class-index l.own ≡ map (λ k. k.now) l.initial.classes.items ++ l.own
