use Rattle.std.proofs.Common.{rules, ◌∙◌}
use Rattle.sv_stack.specs.Frames.{todos_of}
use Rattle.sv_process.proofs.StepLemmas.{called_first, called_no_end}
use Rattle.sv_process.proofs.steps.step_called.Goals as goal

pub run_stmt-requires-clause-no_end : goal.run_stmt-requires-clause-no_end
run_stmt-requires-clause-no_end c =
    called_no_end c.args.design.now c.args.at c.args.made c.args.outer c.args.hidden c.in-Some.stmt.now (todos_of c.args.design.now c.args.frames.now) (search rules) c.requires.comes

pub returns-in_ok-went-in-Some-clause-does : goal.returns-in_ok-went-in-Some-clause-does
returns-in_ok-went-in-Some-clause-does c = λ look p handed see.
    called_first c.args.design.now look p c.args.next handed c.args.at c.args.made c.args.outer c.args.hidden c.in-Some.stmt.now (todos_of c.args.design.now c.args.frames.now) (search rules) c.requires.comes
    ∙ c.in_ok-went-in-Some.ensures.does look p see
