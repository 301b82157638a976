use Rattle.std.proofs.Common.{◌≡◌, ℕ, List, map, length}
use Rattle.std.specs.Prelude.{flat_map, ◌||◌}
use Rattle.sv_tree.specs.UnitView.{item}
use Rattle.sv_names.specs.Index.{has_name}
use Rattle.sv_names.specs.Instances.{used_names}
use Rattle.sv_names.specs.Types.{among}
use Rattle.sv_elab_unit.proofs.used.add_items.Given as goal

abbrev pub invariant-loop-left : goal.invariant-loop-left
invariant-loop-left l = (x : List ℕ) → (among x (flat_map used_names (map item l.left)) || has_name l.used x)
    ≡ (among x (flat_map used_names (map item l.items)) || has_name l.initial.used x)

abbrev pub decreases-loop-left : goal.decreases-loop-left
decreases-loop-left l = length l.left
