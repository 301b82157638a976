use Rattle.std.proofs.Common.{◌≡◌, ◌++◌, map, length}
use Rattle.sv_tree.specs.UnitView.{param, param_item}
use Rattle.sv_elab_scope.specs.Views.{entry_in}
use Rattle.sv_elab_declare.specs.Given.{givens_in, param_names}
use Rattle.sv_elab_declare.proofs.params.add_names.Given as goal

abbrev pub invariant-loop-left : goal.invariant-loop-left
invariant-loop-left l =
    map entry_in l.names ++ param_names (givens_in l.givens) (param l.of) (map param_item l.left)
    ≡ map entry_in l.initial.names ++ param_names (givens_in l.givens) (param l.of) (map param_item l.of.names.items)

abbrev pub decreases-loop-left : goal.decreases-loop-left
decreases-loop-left l = length l.left
