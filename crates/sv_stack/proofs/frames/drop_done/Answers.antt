use Rattle.std.proofs.Common.{◌∙◌, sym}
use Rattle.sv_stack.proofs.FrameLemmas.{popped_fewer, popped_same}
use Rattle.sv_stack.proofs.frames.drop_done.Goals as goal

pub loop-top-preserved : goal.loop-top-preserved
loop-top-preserved c =
    popped_same c.args.design.now c.loop-top.frames c.pop.new.self c.pop.result c.in-Some.top.now c.in-Some.ensures.some c.pop.ensures.some c.pop.ensures.none
    (sym c.is_live.ensures ∙ c.if-is_live.false) ∙ c.loop-top.invariant

pub loop-top-smaller : goal.loop-top-smaller
loop-top-smaller c =
    popped_fewer c.loop-top.frames c.pop.new.self c.pop.result c.in-Some.top.now c.in-Some.ensures.some c.pop.ensures.none c.pop.ensures.fewer
