use Rattle.std.proofs.Common.{◌≡◌, length}
use Rattle.sv_names.specs.Checked.{all, ◌where_also◌}
use Rattle.sv_names.specs.Classes.{override_stands}
use Rattle.sv_names.specs.Views.{around_in}
use Rattle.sv_elab_declare.specs.Alone.{class_in}
use Rattle.sv_elab_class.proofs.overrides.overrides_stand.Given as goal

abbrev pub invariant-loop-left : goal.invariant-loop-left
invariant-loop-left l =
    (l.guards where_also all (override_stands (around_in l.around) (class_in l.base)) l.left)
    ≡ all (override_stands (around_in l.around) (class_in l.base)) l.members

abbrev pub decreases-loop-left : goal.decreases-loop-left
decreases-loop-left l = length l.left
