use Rattle.std.proofs.Common.{◌≡◌, ◌++◌, map, length}
use Rattle.sv_elab_whole.proofs.numbering.add_paths.Given as goal

abbrev pub invariant-loop-left : goal.invariant-loop-left
invariant-loop-left l = l.paths ++ map (λ o. o.path) l.left ≡ l.initial.paths ++ map (λ o. o.path) l.objects

abbrev pub decreases-loop-left : goal.decreases-loop-left
decreases-loop-left l = length l.left
