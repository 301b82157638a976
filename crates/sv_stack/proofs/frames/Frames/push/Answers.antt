use Rattle.std.proofs.Common.{arith}
use Rattle.sv_stack.proofs.DepthLemmas.{ends_pushed}
use Rattle.sv_stack.proofs.frames.Frames.push.Goals as goal

pub overflow_add-self : goal.overflow_add-self
overflow_add-self c =
    let stack = c.push.new.self in
    let few = ends_pushed c.self.inside.stack.items stack.items c.args.frame c.self.inside.calls c.ends_in-ends.result c.in_ok-push.ensures.ok
    c.self.invariant c.ends_in-ends.ensures in
    omega (arith, few, c.len-entries.ensures.value)
