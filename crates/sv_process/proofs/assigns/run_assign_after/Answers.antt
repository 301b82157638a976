use Rattle.std.proofs.Common.{List, [], ◌∷◌, ap, sym, subst, ◌∙◌}
use Rattle.sv_flat.specs.Statements.Delays.{delayed}
use Rattle.sv_flat.specs.Statements.Shared.{waits}
use Rattle.sv_stack.specs.declared.frames.Frame.{Frame}
use Rattle.sv_stack.specs.Frames.{todos_of}
use Rattle.sv_stack.specs.Effects.{Leaves, effect_in}
use Rattle.sv_process.proofs.AssignLemmas.{put_off}
use Rattle.sv_process.proofs.assigns.run_assign_after.Goals as goal

pub returns-clause-does : goal.returns-clause-does
returns-clause-does g c =
    let v = g.V.Values.view c.args.values.now in
    let d = c.args.design.now in
    put_off d c.wait_with.new.frames c.wait_with.new.out.items _ _ c.args.at c.args.stmt.now c.args.targets.now c.args.expr.now c.args.delay.now c.args.in_ticks c.args.scope _ c.in_ok-n.n c.in_ok-x.x _
    c.requires.at c.requires.is c.in_ok-n.ensures c.in_ok-x.ensures
    (ap (λ k. delayed k v) (sym c.ticks_in.ensures) ∙ c.delay_effect-effect.ensures d)
    c.in_ok-leave_first.ensures
    (subst (λ (fs : List Frame). Leaves d c.wait_with.new.frames c.wait_with.new.out.items (waits (todos_of d fs) (effect_in d c.delay_effect-effect.result ∷ []))) c.in_ok-push.ensures c.in_ok-wait_with.ensures)
