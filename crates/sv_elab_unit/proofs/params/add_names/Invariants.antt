use Rattle.std.proofs.Common.{◌≡◌, ◌++◌, map, length}
use Rattle.sv_tree.specs.UnitView.{param, param_item}
use Rattle.sv_elab_unit.specs.Definitions.{names_in}
use Rattle.sv_elab_unit.specs.Params.{param_texts}
use Rattle.sv_elab_unit.proofs.params.add_names.Given as goal

abbrev pub invariant-loop-left : goal.invariant-loop-left
invariant-loop-left l =
    names_in l.list ++ map (λ x. x.name.text) (map param_item l.left) ≡ names_in l.initial.list ++ param_texts (param l.of)

abbrev pub decreases-loop-left : goal.decreases-loop-left
decreases-loop-left l = length l.left
