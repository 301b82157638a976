use Rattle.std.proofs.Common.{◌≡◌, ◌++◌, map, length}
use Rattle.std.specs.Prelude.{flat_map}
use Rattle.sv_tree.specs.UnitView.{item}
use Rattle.sv_names.specs.Instances.{item_entries}
use Rattle.sv_elab_declare.specs.Given.{givens_in}
use Rattle.sv_elab_scope.specs.Views.{entry_in}
use Rattle.sv_elab_declare.proofs.units.add_items_of_unit.Given as goal

abbrev pub invariant-loop-left : goal.invariant-loop-left
invariant-loop-left l =
    map entry_in l.names ++ flat_map (item_entries l.path (givens_in l.givens)) (map item l.left)
    ≡ map entry_in l.initial.names ++ flat_map (item_entries l.path (givens_in l.givens)) (map item l.all)

abbrev pub decreases-loop-left : goal.decreases-loop-left
decreases-loop-left l = length l.left
