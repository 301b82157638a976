use Rattle.std.proofs.Common.{◌≡◌, ◌++◌, map, length}
use Rattle.std.specs.Prelude.{flat_map}
use Rattle.sv_tree.specs.UnitView.{class_item}
use Rattle.sv_names.specs.Entries.{class_item_entries}
use Rattle.sv_elab_scope.specs.Views.{entry_in}
use Rattle.sv_elab_declare.proofs.classes.add_class.Given as goal

abbrev pub invariant-loop-left : goal.invariant-loop-left
invariant-loop-left l =
    map entry_in l.names ++ flat_map (class_item_entries l.path) (map class_item l.left)
    ≡ map entry_in l.initial.names ++ flat_map (class_item_entries l.path) (map class_item l.of.items.items)

abbrev pub decreases-loop-left : goal.decreases-loop-left
decreases-loop-left l = length l.left
