use Rattle.std.proofs.Common.{◌≡◌, ℕ, List, map, length}
use Rattle.std.specs.Prelude.{◌||◌}
use Rattle.sv_tree.specs.UnitView.{description}
use Rattle.sv_names.specs.Index.{has_name}
use Rattle.sv_names.specs.Instances.{all_used}
use Rattle.sv_names.specs.Types.{among}
use Rattle.sv_elab_unit.proofs.used.used_names.Given as goal

abbrev pub invariant-loop-left : goal.invariant-loop-left
invariant-loop-left l = (x : List ℕ) → (among x (all_used (map description l.left)) || has_name l.used x)
    ≡ among x (all_used (map description l.all))

abbrev pub decreases-loop-left : goal.decreases-loop-left
decreases-loop-left l = length l.left
