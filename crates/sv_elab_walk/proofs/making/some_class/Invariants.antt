use Rattle.std.proofs.Common.{◌≡◌, drop, map}
use Rattle.sv_tree.specs.UnitView.{item}
use Rattle.sv_elab_walk.specs.Grounds.{some_class}
use Rattle.sv_elab_walk.proofs.making.some_class.Given as goal

abbrev pub invariant-loop-one : goal.invariant-loop-one
invariant-loop-one l = some_class (map item (drop l.one-index l.items)) ≡ some_class (map item l.items)
