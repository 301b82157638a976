use Rattle.std.proofs.Common.{◌≡◌, map}
use Rattle.sv_names.specs.Groups.{is_met}
use Rattle.sv_elab_declare.specs.Alone.{class_in}
use Rattle.sv_elab_class.specs.Heads.{head_in}
use Rattle.sv_elab_class.proofs.lines.is_met.Given as goal

abbrev pub invariant-loop-left : goal.invariant-loop-left
invariant-loop-left l =
    is_met l.left (map head_in l.heads) l.path (class_in l.next) ≡ is_met l.fn.most (map head_in l.heads) l.path (class_in l.fn.base)

abbrev pub decreases-loop-left : goal.decreases-loop-left
decreases-loop-left l = l.left
