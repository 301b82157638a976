use Rattle.std.proofs.Common.{◌≡◌, map, length}
use Rattle.sv_names.specs.Checked.{all, ◌where_also◌}
use Rattle.sv_names.specs.Classes.{bases_stand}
use Rattle.sv_names.specs.Groups.{base_rules}
use Rattle.sv_elab_class.specs.Heads.{head_in}
use Rattle.sv_elab_class.proofs.lines.bases_stand.Given as goal

abbrev pub invariant-loop-left : goal.invariant-loop-left
invariant-loop-left l =
    (l.guards where_also all (base_rules (map head_in l.heads)) (map head_in l.left)) ≡ bases_stand (map head_in l.heads)

abbrev pub decreases-loop-left : goal.decreases-loop-left
decreases-loop-left l = length l.left
