use Rattle.std.proofs.Common.{refl}
use Rattle.sv_elab_drive.proofs.WatchedLaws.{watched_is}
use Rattle.sv_elab_drive.proofs.watched.watched_by.Goals as goal

pub returns-clause-ok : goal.returns-clause-ok
returns-clause-ok c n =
    watched_is n _ c.args.body.now c.in_ok-operands.operands c.in_ok-operands-2.operands c.in_ok-watches.watches refl
    c.in_ok-operands.ensures c.in_ok-operands-2.ensures c.in_ok-watches.ensures
