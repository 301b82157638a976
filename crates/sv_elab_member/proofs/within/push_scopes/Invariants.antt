use Rattle.std.proofs.Common.{◌≡◌, ◌++◌, drop, map}
use Rattle.sv_elab_member.proofs.within.push_scopes.Given as goal

abbrev pub invariant-loop-class : goal.invariant-loop-class
invariant-loop-class l =
    map (λ s. s.now) l.scopes.items ++ map (λ k. k.scope) (map (λ k. k.now) (drop l.class-index l.classes))
    ≡ map (λ s. s.now) l.initial.scopes.items ++ map (λ k. k.scope) (map (λ k. k.now) l.classes)
