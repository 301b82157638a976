use Rattle.std.proofs.Common.{◌≡◌, ◌++◌, map, length}
use Rattle.std.specs.Prelude.{flat_map}
use Rattle.sv_names.specs.Writers.{declares}
use Rattle.sv_elab_writers.specs.Views.{touch_in}
use Rattle.sv_elab_act.proofs.declared.add_scope.Given as goal

abbrev pub invariant-loop-left : goal.invariant-loop-left
invariant-loop-left l =
    map touch_in l.touches ++ flat_map (λ k. declares k.name.at k.value) l.left
    ≡ map touch_in l.initial.touches ++ flat_map (λ k. declares k.name.at k.value) l.scope.known

abbrev pub decreases-loop-left : goal.decreases-loop-left
decreases-loop-left l = length l.left
