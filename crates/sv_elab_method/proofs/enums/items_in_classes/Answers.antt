use Rattle.std.proofs.Common.{map, refl, arith}
use Rattle.sv_names.specs.Calls.{items_in_scopes}
use Rattle.sv_elab_method.proofs.ItemLaws.{scope_step}
use Rattle.sv_elab_method.proofs.enums.items_in_classes.Goals as goal

pub loop-class-preserved : goal.loop-class-preserved
loop-class-preserved c =
    let path = c.args.path.now in
    let classes = c.args.classes.now in
    scope_step (λ ks. map (λ k. k.scope) (map (λ k. k.now) ks)) (λ k. k.now.scope) (λ k ks. refl) path c.args.at classes c.loop-class.class-index c.class-item.result
    c.loop-class.list c.in_ok-list.list (items_in_scopes path c.args.at (map (λ k. k.scope) (map (λ k. k.now) classes)))
    (omega arith) c.class-item.is c.in_ok-list.ensures.ok c.loop-class.invariant
