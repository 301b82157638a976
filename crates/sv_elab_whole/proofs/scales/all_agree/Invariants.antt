use Rattle.std.proofs.Common.{◌≡◌, length}
use Rattle.sv_names.specs.Checked.{all, ◌where_also◌}
use Rattle.sv_names.specs.Design.{differs}
use Rattle.sv_elab_whole.proofs.scales.all_agree.Given as goal

abbrev pub invariant-loop-left : goal.invariant-loop-left
invariant-loop-left l = (l.guards where_also all (differs l.first) l.left) ≡ all (differs l.first) l.others

abbrev pub decreases-loop-left : goal.decreases-loop-left
decreases-loop-left l = length l.left
