use Rattle.std.proofs.Common.{◌≡◌, drop, map}
use Rattle.sv_names.specs.Calls.{items_in_scopes}
use Rattle.sv_names.specs.Joined.{joined}
use Rattle.sv_elab_method.proofs.enums.items_in_classes.Given as goal

abbrev pub invariant-loop-class : goal.invariant-loop-class
invariant-loop-class l =
    joined l.list (items_in_scopes l.path l.at (map (λ k. k.scope) (map (λ k. k.now) (drop l.class-index l.classes))))
    ≡ items_in_scopes l.path l.at (map (λ k. k.scope) (map (λ k. k.now) l.classes))
