use Rattle.std.proofs.Common.{Some, drop}
use Rattle.sv_stack.specs.Frames.{todos_of}
use Rattle.sv_process.proofs.StepLemmas.{next_call}
use Rattle.sv_process.proofs.statement.run_next_call.Goals as goal

pub returns-clause-does : goal.returns-clause-does
returns-clause-does c = λ look p see.
    let d = c.args.design.now in
    c.in_ok-went.ensures.does d c.run_call-ran.new.frames _
    (next_call d look p c.args.next c.args.at c.args.stmt.now c.args.call.now c.args.made c.args.outer c.args.hidden _ (drop 1 (todos_of d c.args.frames.now))
    c.run_call-ran.result c.run_call-ran.new.frames c.run_call-ran.new.out.items
    c.requires.at c.requires.number (see (Some c.args.hidden)) (c.run_call-ran.ensures.does p))
