use Rattle.std.proofs.Common.{◌≡◌, ◌++◌, map, length}
use Rattle.sv_elab_whole.specs.Numbering.{line_paths}
use Rattle.sv_elab_whole.proofs.numbering.line_in.Given as goal

abbrev pub invariant-loop-left : goal.invariant-loop-left
invariant-loop-left l = l.paths ++ map (λ k. k.path) (map (λ k. k.now) l.left) ≡ line_paths (map (λ k. k.now) l.classes) l.path

abbrev pub decreases-loop-left : goal.decreases-loop-left
decreases-loop-left l = length l.left
