use Rattle.std.proofs.Common.{◌≡◌, ◌++◌, map, length}
use Rattle.sv_tree.specs.UnitView.{description}
use Rattle.sv_names.specs.Instances.{file_entries}
use Rattle.sv_elab_scope.specs.Views.{entry_in}
use Rattle.sv_elab_declare.proofs.units.add_files.Given as goal

abbrev pub invariant-loop-left : goal.invariant-loop-left
invariant-loop-left l =
    map entry_in l.names ++ file_entries (map description l.left)
    ≡ map entry_in l.initial.names ++ file_entries (map description l.all)

abbrev pub decreases-loop-left : goal.decreases-loop-left
decreases-loop-left l = length l.left
