use Rattle.std.proofs.Common.{◌≡◌, drop, map}
use Rattle.sv_names.specs.Calls.{items_in_scopes}
use Rattle.sv_names.specs.Joined.{joined}
use Rattle.sv_elab_method.proofs.enums.items_in_scopes.Given as goal

abbrev pub invariant-loop-scope : goal.invariant-loop-scope
invariant-loop-scope l =
    joined l.list (items_in_scopes l.path l.at (map (λ s. s.now) (drop l.scope-index l.scopes)))
    ≡ items_in_scopes l.path l.at (map (λ s. s.now) l.scopes)
