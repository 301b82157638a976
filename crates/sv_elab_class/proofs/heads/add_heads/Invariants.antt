use Rattle.std.proofs.Common.{◌≡◌, ◌++◌, map, length}
use Rattle.sv_tree.specs.UnitView.{item}
use Rattle.sv_names.specs.Groups.{heads_of}
use Rattle.sv_elab_scope.specs.Views.{entry_in}
use Rattle.sv_elab_class.specs.Heads.{head_in}
use Rattle.sv_elab_class.proofs.heads.add_heads.Given as goal

abbrev pub invariant-loop-left : goal.invariant-loop-left
invariant-loop-left l =
    map head_in l.list ++ heads_of l.path (map entry_in l.own) (map entry_in l.outer) (map item l.left)
    ≡ map head_in l.initial.list ++ heads_of l.path (map entry_in l.own) (map entry_in l.outer) (map item l.items)

abbrev pub decreases-loop-left : goal.decreases-loop-left
decreases-loop-left l = length l.left
