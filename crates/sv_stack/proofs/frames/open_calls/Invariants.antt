use Rattle.std.proofs.Common.{◌≡◌, ◌≤◌, reverse, take}
use Rattle.sv_flat.specs.Statements.Jumps.{open_calls}
use Rattle.sv_stack.specs.Frames.{todos_of}
use Rattle.sv_stack.proofs.frames.open_calls.Given as goal

-- the calls that the entries so far hold open
abbrev pub invariant-loop-frame : goal.invariant-loop-frame
invariant-loop-frame l = record {
  counted : l.open ≡ open_calls (todos_of l.design (reverse (take l.frame-index l.stack)));
  few : l.open ≤ l.frame-index;
}
