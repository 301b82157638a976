use Rattle.std.proofs.Common.{rules, List, drop, subst}
use Rattle.sv_flat.specs.declared.target.Lvalue.{Lvalue}
use Rattle.sv_flat.specs.Statements.Shared.{from_result}
use Rattle.sv_flat.specs.Targets.{spots_of}
use Rattle.sv_stack.specs.Frames.{todos_of}
use Rattle.sv_stack.specs.Effects.{Does}
use Rattle.sv_process.specs.Parts.{writes}
use Rattle.sv_process.proofs.StepLemmas.{put_first}
use Rattle.sv_process.proofs.steps.step_put.Goals as goal

pub returns-in_ok-went-in-AssignAfter-clause-does : goal.returns-in_ok-went-in-AssignAfter-clause-does
returns-in_ok-went-in-AssignAfter-clause-does g c = λ look p next handed see.
    let d = c.args.design.now in
    let v = g.V.Values.view c.args.values.now in
    let ts = todos_of d c.args.frames.now in
    c.in_ok-went-in-AssignAfter.ensures.does d c.run_put-ran.new.frames _
    (put_first d look p next handed c.args.scope v c.args.at c.args.value c.in-Some.stmt.now _ _ _ _ ts c.run_put-ran.result c.run_put-ran.new.frames c.run_put-ran.new.out.items
    (search rules) c.in-AssignAfter.is see c.requires.comes
    (subst (λ (to : List Lvalue). Does d c.run_put-ran.result c.run_put-ran.new.frames c.run_put-ran.new.out.items
    (from_result (spots_of to v) (λ ss. writes (drop 1 ts) to ss c.args.value))) c.as_slice-targets.ensures c.run_put-ran.ensures.does))
