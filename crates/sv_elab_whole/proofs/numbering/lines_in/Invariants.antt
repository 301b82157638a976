use Rattle.std.proofs.Common.{◌≡◌, ◌++◌, map, length}
use Rattle.sv_elab_whole.specs.Numbering.{line_paths}
use Rattle.sv_elab_whole.proofs.numbering.lines_in.Given as goal

abbrev pub invariant-loop-left : goal.invariant-loop-left
invariant-loop-left l =
    l.lines ++ map (line_paths (map (λ k. k.now) l.classes)) l.left ≡ map (line_paths (map (λ k. k.now) l.classes)) l.paths

abbrev pub decreases-loop-left : goal.decreases-loop-left
decreases-loop-left l = length l.left
