use Rattle.std.proofs.Common.{◌≡◌, ◌++◌, map, length, option_map}
use Rattle.sv_tree.specs.StmtView.{implied}
use Rattle.sv_tree.specs.UnitView.{argument, head}
use Rattle.sv_names.specs.Entries.{taken, taken_from}
use Rattle.sv_names.specs.Views.{around_in}
use Rattle.sv_elab_declare.specs.Added.{type_before}
use Rattle.sv_elab_head.specs.Formals.{formal_within}
use Rattle.sv_elab_head.proofs.formals.formals_of.Given as goal

abbrev pub invariant-loop-left : goal.invariant-loop-left
invariant-loop-left l =
    l.list ++ map (formal_within (around_in l.around) l.scope)
    (taken_from l.direction (type_before (option_map (λ t. implied t.now) l.before)) (map argument l.left))
    ≡ map (formal_within (around_in l.around) l.scope) (taken (head l.of))

abbrev pub decreases-loop-left : goal.decreases-loop-left
decreases-loop-left l = length l.left
