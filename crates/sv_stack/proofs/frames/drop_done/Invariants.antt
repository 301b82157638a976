use Rattle.std.proofs.Common.{◌≡◌, length}
use Rattle.sv_stack.specs.Frames.{todos_of}
use Rattle.sv_stack.proofs.frames.drop_done.Given as goal

abbrev pub invariant-loop-top : goal.invariant-loop-top
invariant-loop-top l = todos_of l.design l.frames ≡ todos_of l.design l.initial.frames

abbrev pub decreases-loop-top : goal.decreases-loop-top
decreases-loop-top l = length l.frames
