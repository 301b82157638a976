use Rattle.std.proofs.Common.{◌≡◌, ◌++◌, map, length}
use Rattle.sv_names.specs.Writers.{overriding}
use Rattle.sv_elab_writers.proofs.reached.add_overriding.Given as goal

abbrev pub invariant-loop-left : goal.invariant-loop-left
invariant-loop-left l =
    l.paths ++ overriding (map (λ k. k.now) l.classes) (map (λ k. k.now) l.left) l.class l.name
    ≡ l.initial.paths ++ overriding (map (λ k. k.now) l.classes) (map (λ k. k.now) l.classes) l.class l.name

abbrev pub decreases-loop-left : goal.decreases-loop-left
decreases-loop-left l = length l.left
