use Rattle.std.proofs.Common.{rules, ◌∙◌}
use Rattle.sv_stack.specs.Frames.{todos_of}
use Rattle.sv_process.proofs.StepLemmas.{stmt_first, stmt_no_end}
use Rattle.sv_process.proofs.steps.step_stmt.Goals as goal

pub run_stmt-requires-clause-no_end : goal.run_stmt-requires-clause-no_end
run_stmt-requires-clause-no_end c =
    stmt_no_end c.args.design.now c.args.at c.args.scope c.in-Some.stmt.now (todos_of c.args.design.now c.args.frames.now) (search rules) c.requires.comes

pub returns-in_ok-went-in-Some-clause-does : goal.returns-in_ok-went-in-Some-clause-does
returns-in_ok-went-in-Some-clause-does c = λ look p handed see.
    stmt_first c.args.design.now look p c.args.next handed c.args.at c.args.scope c.in-Some.stmt.now (todos_of c.args.design.now c.args.frames.now) (search rules) c.requires.comes
    ∙ c.in_ok-went-in-Some.ensures.does look p see
