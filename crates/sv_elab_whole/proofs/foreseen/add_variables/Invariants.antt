use Rattle.std.proofs.Common.{◌≡◌, ◌++◌, map, length}
use Rattle.sv_tree.specs.StmtView.{declarator}
use Rattle.sv_names.specs.Design.{within}
use Rattle.sv_elab_whole.proofs.foreseen.add_variables.Given as goal

abbrev pub invariant-loop-left : goal.invariant-loop-left
invariant-loop-left l =
    l.list ++ within l.path (map (λ d. d.name) (map declarator l.left)) ≡ l.initial.list ++ within l.path (map (λ d. d.name) (map declarator l.variables))

abbrev pub decreases-loop-left : goal.decreases-loop-left
decreases-loop-left l = length l.left
