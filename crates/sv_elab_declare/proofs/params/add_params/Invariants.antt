use Rattle.std.proofs.Common.{◌≡◌, ◌++◌, map, length}
use Rattle.std.specs.Prelude.{flat_map}
use Rattle.sv_tree.specs.UnitView.{param}
use Rattle.sv_names.specs.Instances.{param_entries}
use Rattle.sv_elab_scope.specs.Views.{entry_in}
use Rattle.sv_elab_declare.specs.Given.{givens_in}
use Rattle.sv_elab_declare.proofs.params.add_params.Given as goal

abbrev pub invariant-loop-left : goal.invariant-loop-left
invariant-loop-left l =
    map entry_in l.names ++ flat_map (param_entries (givens_in l.givens)) (map param l.left)
    ≡ map entry_in l.initial.names ++ flat_map (param_entries (givens_in l.givens)) (map param l.all)

abbrev pub decreases-loop-left : goal.decreases-loop-left
decreases-loop-left l = length l.left
