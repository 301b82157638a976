use Rattle.std.proofs.Common.{◌≡◌, None, map, length}
use Rattle.sv_tree.specs.UnitView.{description}
use Rattle.sv_names.specs.Instances.{roots, definitions}
use Rattle.sv_elab_unit.specs.Definitions.{definition_in}
use Rattle.sv_elab_unit.specs.Roots.{roots_behind}
use Rattle.sv_elab_unit.proofs.tops.unused.Given as goal

abbrev pub invariant-loop-left : goal.invariant-loop-left
invariant-loop-left l =
    roots_behind l.used l.seen (map definition_in l.list) (definitions (map description l.left)) ≡ roots (map description l.all) None

abbrev pub decreases-loop-left : goal.decreases-loop-left
decreases-loop-left l = length l.left
