use Rattle.std.proofs.Common.{◌≡◌, length}
use Rattle.sv_flat.specs.Statements.Jumps.{after_continue}
use Rattle.sv_stack.specs.Frames.{todos_of}
use Rattle.sv_process.proofs.jumps.leave_turn.Given as goal

abbrev pub invariant-loop-frame : goal.invariant-loop-frame
invariant-loop-frame l = after_continue l.design (todos_of l.design l.frames) ≡ after_continue l.design (todos_of l.design l.initial.frames)

abbrev pub decreases-loop-frame : goal.decreases-loop-frame
decreases-loop-frame l = length l.frames
