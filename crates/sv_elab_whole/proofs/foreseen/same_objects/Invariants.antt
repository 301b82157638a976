use Rattle.std.proofs.Common.{◌≡◌, map, length}
use Rattle.sv_names.specs.Design.{same_list}
use Rattle.sv_elab_whole.proofs.foreseen.same_objects.Given as goal

abbrev pub invariant-loop-left : goal.invariant-loop-left
invariant-loop-left l = same_list l.left (map (λ o. o.path) l.right) ≡ same_list l.paths (map (λ o. o.path) l.objects)

abbrev pub decreases-loop-left : goal.decreases-loop-left
decreases-loop-left l = length l.left
