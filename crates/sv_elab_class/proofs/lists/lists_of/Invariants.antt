use Rattle.std.proofs.Common.{◌∷◌, map, length}
use Rattle.sv_elab_scope.specs.Views.{entry_in}
use Rattle.sv_elab_class.specs.Heads.{head_in}
use Rattle.sv_elab_class.specs.Lists.{members_of, KeepsWith}
use Rattle.sv_elab_class.proofs.lists.lists_of.Given as goal

abbrev pub invariant-loop-left : goal.invariant-loop-left
invariant-loop-left l =
    KeepsWith l.lists (map entry_in l.fn.names ∷ members_of (map head_in l.heads)) (map head_in l.left)

abbrev pub decreases-loop-left : goal.decreases-loop-left
decreases-loop-left l = length l.left
