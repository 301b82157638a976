use Rattle.std.proofs.Common.{drop}
use Rattle.sv_stack.specs.Frames.{todos_of}
use Rattle.sv_process.proofs.StepLemmas.{first_call}
use Rattle.sv_process.proofs.statement.run_first_call.Goals as goal

pub returns-clause-does : goal.returns-clause-does
returns-clause-does c = λ look p see.
    let d = c.args.design.now in
    first_call d look p c.args.next c.args.at c.in_ok-site.site c.args.stmt.now c.args.call.now c.args.made c.args.outer _ (drop 1 (todos_of d c.args.frames.now))
    c.run_call-ran.result c.in_ok-went.went c.run_call-ran.new.frames c.run_call-ran.new.out.items c.went_into.new.out.items
    c.in_ok-site.ensures c.requires.at c.requires.number (see c.args.outer)
    (c.in_ok-went.ensures.does d c.run_call-ran.new.frames) (c.run_call-ran.ensures.does p)
