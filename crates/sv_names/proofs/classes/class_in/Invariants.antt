use Rattle.std.proofs.Common.{◌≡◌, drop, map}
use Rattle.sv_names.specs.Named.{class_in}
use Rattle.sv_names.proofs.classes.class_in.Given as goal

abbrev pub invariant-loop-class : goal.invariant-loop-class
invariant-loop-class l = class_in (map (λ k. k.now) (drop l.class-index l.classes)) l.path ≡ class_in (map (λ k. k.now) l.classes) l.path
