use Rattle.std.proofs.Common.{map, refl, arith}
use Rattle.sv_names.specs.Calls.{items_in_scopes}
use Rattle.sv_elab_method.proofs.ItemLaws.{scope_step}
use Rattle.sv_elab_method.proofs.enums.items_in_scopes.Goals as goal

pub loop-scope-preserved : goal.loop-scope-preserved
loop-scope-preserved c =
    let path = c.args.path.now in
    let scopes = c.args.scopes.now in
    scope_step (map (λ s. s.now)) (λ s. s.now) (λ s ss. refl) path c.args.at scopes c.loop-scope.scope-index c.scope-item.result c.loop-scope.list c.in_ok-list.list
    (items_in_scopes path c.args.at (map (λ s. s.now) scopes)) (omega arith) c.scope-item.is c.in_ok-list.ensures.ok c.loop-scope.invariant
