use Rattle.std.proofs.Common.{true, false, arith}
use Rattle.sv_stack.proofs.DepthLemmas.{open_next}
use Rattle.sv_stack.proofs.frames.open_calls.Goals as goal
use Rattle.sv_stack.proofs.frames.open_calls.Goals.{then-is_end, else-is_end}

pub loop-frame-preserved : goal.loop-frame-preserved
loop-frame-preserved c =
    let next = open_next c.args.design.now c.args.stack.now c.loop-frame.frame-index c.frame-item.result c.is_end.result in
    elim c.if-is_end.branch [
      | then-is_end w ↦ record {
        counted = omega (arith, next true c.loop-frame-test.true c.frame-item.is c.is_end.ensures w.if-is_end.true);
        few = omega arith;
      }
      | else-is_end w ↦ record {
        counted = omega (arith, next false c.loop-frame-test.true c.frame-item.is c.is_end.ensures w.if-is_end.false);
        few = omega arith;
      }
    ]
