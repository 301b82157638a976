use Rattle.sv_process.proofs.WaitLemmas.{as_written}
use Rattle.sv_process.proofs.waits.run_at.Goals as goal

pub returns : goal.returns
returns g c =
    as_written c.args.design.now _ _ _ _ c.args.at c.args.stmt.now c.args.watches.now c.args.scope _ c.requires.at c.requires.is c.requires.built
    c.in_ok-leave_first.ensures c.in_ok-wait_with.ensures
