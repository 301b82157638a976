use Rattle.std.proofs.Common.{rules, subst, sym}
use Rattle.sv_stack.specs.Frames.{todos_of}
use Rattle.sv_stack.specs.Effects.{Does}
use Rattle.sv_process.proofs.StepLemmas.{end_first, place_of_end}
use Rattle.sv_process.proofs.steps.end_call.Goals as goal

pub returns-clause-does : goal.returns-clause-does
returns-clause-does g c = λ look p next handed see saw.
    let d = c.args.design.now in
    c.in_ok-went.ensures.does d c.run_leave-ran.new.frames _
    (subst (Does d c.run_leave-ran.result c.run_leave-ran.new.frames c.run_leave-ran.new.out.items)
    (sym (end_first d look p next handed c.args.at c.args.number c.args.callee c.args.caller c.args.stmt.now c.args.call.now c.args.routine c.args.arguments.now
    c.in-Some.subroutine.now _ _ (todos_of d c.args.frames.now) c.requires.at c.requires.number c.requires.is (search rules) c.requires.comes see saw))
    c.run_leave-ran.ensures.does)

pub returns-clause-at : goal.returns-clause-at
returns-clause-at g c =
    let d = c.args.design.now in
    place_of_end d c.args.at c.args.number c.args.callee c.args.caller c.args.stmt.now c.args.call.now c.args.routine c.args.arguments.now
    c.in-Some.subroutine.now (todos_of d c.args.frames.now) c.requires.at c.requires.number c.requires.is (search rules) c.requires.comes
