use Rattle.std.proofs.Common.{map, take}
use Rattle.sv_tree.specs.UnitView.{description}
use Rattle.sv_names.specs.Instances.{definitions}
use Rattle.sv_elab_unit.specs.Units.{Finds}
use Rattle.sv_elab_unit.proofs.units.index_of.Given as goal

abbrev pub invariant-loop-one : goal.invariant-loop-one
invariant-loop-one l = Finds l.first (definitions (map description (take l.one-index l.all)))
