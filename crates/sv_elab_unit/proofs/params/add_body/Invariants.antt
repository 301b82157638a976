use Rattle.std.proofs.Common.{◌≡◌, ◌++◌, map, length}
use Rattle.std.specs.Prelude.{flat_map}
use Rattle.sv_tree.specs.UnitView.{item}
use Rattle.sv_names.specs.Instances.{body_params}
use Rattle.sv_elab_unit.specs.Definitions.{names_in}
use Rattle.sv_elab_unit.proofs.params.add_body.Given as goal

abbrev pub invariant-loop-left : goal.invariant-loop-left
invariant-loop-left l =
    names_in l.list ++ flat_map body_params (map item l.left) ≡ names_in l.initial.list ++ flat_map body_params (map item l.all)

abbrev pub decreases-loop-left : goal.decreases-loop-left
decreases-loop-left l = length l.left
