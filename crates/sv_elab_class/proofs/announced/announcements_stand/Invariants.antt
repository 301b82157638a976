use Rattle.std.proofs.Common.{◌≡◌, map, length}
use Rattle.sv_names.specs.Checked.{all, ◌where_also◌}
use Rattle.sv_names.specs.Classes.{announced, announcements_stand}
use Rattle.sv_elab_scope.specs.Views.{entry_in}
use Rattle.sv_elab_class.proofs.announced.announcements_stand.Given as goal

abbrev pub invariant-loop-left : goal.invariant-loop-left
invariant-loop-left l =
    (l.guards where_also all (announced (map entry_in l.entries)) (map entry_in l.left)) ≡ announcements_stand (map entry_in l.entries)

abbrev pub decreases-loop-left : goal.decreases-loop-left
decreases-loop-left l = length l.left
