use Rattle.std.proofs.Common.{◌≡◌, drop, map}
use Rattle.sv_names.specs.Groups as groups
use Rattle.sv_elab_class.specs.Heads.{head_in}
use Rattle.sv_elab_class.proofs.lines.class_of.Given as goal

abbrev pub invariant-loop-head : goal.invariant-loop-head
invariant-loop-head l = groups.head_in l.path (map head_in (drop l.head-index l.heads)) ≡ groups.head_in l.path (map head_in l.heads)
