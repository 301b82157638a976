use Rattle.std.proofs.Common.{rules}
use Rattle.sv_process.proofs.WaitLemmas.{waits_on}
use Rattle.sv_process.proofs.waits.run_wait.Goals as goal

pub returns-clause-does : goal.returns-clause-does
returns-clause-does g c =
    waits_on c.args.design.now _ _ _ _ _ c.args.at c.args.stmt.now c.args.condition.now c.args.outer c.args.scope _ c.in_ok-x.x _ c.requires.at c.requires.is c.requires.built
    (search rules) c.in_ok-leave_first.ensures c.in_ok-push.ensures c.in_ok-x.ensures (search rules) c.in_ok-wait_with.ensures
