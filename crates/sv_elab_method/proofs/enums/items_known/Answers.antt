use Rattle.std.proofs.Common.{arith}
use Rattle.sv_names.specs.Calls.{items_known}
use Rattle.sv_elab_method.proofs.ItemLaws.{known_step}
use Rattle.sv_elab_method.proofs.enums.items_known.Goals as goal

pub loop-declaration-preserved : goal.loop-declaration-preserved
loop-declaration-preserved c =
    let known = c.args.known.now in
    known_step c.args.at known c.loop-declaration.declaration-index c.declaration-item.result c.loop-declaration.list c.in_ok-list.list (items_known c.args.at known)
    (omega arith) c.declaration-item.is c.in_ok-list.ensures.ok c.loop-declaration.invariant
