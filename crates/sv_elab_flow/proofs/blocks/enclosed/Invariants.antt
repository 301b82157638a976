use Rattle.std.proofs.Common.{◌≡◌, ◌∷◌, map, take}
use Rattle.sv_elab_flow.proofs.blocks.enclosed.Given as goal

abbrev pub invariant-loop-s : goal.invariant-loop-s
invariant-loop-s l = map (λ s. s.now) l.scopes.items ≡ l.scope ∷ map (λ s. s.now) (take l.s-index l.outer)
