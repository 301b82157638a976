use Rattle.std.proofs.Common.{◌≡◌, ◌≤◌, ◌++◌, length, drop}
use Rattle.sv_value.specs.Digits.{rendered}
use Rattle.sv_process.proofs.prints.rendered.Given as goal

-- what is printed, and what is still to be printed
abbrev pub invariant-loop-piece : goal.invariant-loop-piece
invariant-loop-piece l = (l.place ≤ length l.fn.values)
    × (l.text ++ rendered l.unit (drop l.piece-index l.pieces) (drop l.place l.fn.values) ≡ rendered l.unit l.pieces l.fn.values)
