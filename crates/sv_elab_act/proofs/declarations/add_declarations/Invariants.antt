use Rattle.std.proofs.Common.{◌≡◌, ◌++◌, map, length}
use Rattle.sv_tree.specs.StmtView as view
use Rattle.sv_names.specs.Writers.{decls_touches}
use Rattle.sv_names.specs.Views.{around_in}
use Rattle.sv_elab_writers.specs.Views.{touch_in}
use Rattle.sv_elab_act.proofs.declarations.add_declarations.Given as goal

abbrev pub invariant-loop-left : goal.invariant-loop-left
invariant-loop-left l =
    map touch_in l.touches ++ decls_touches (around_in l.around) (map view.decl l.left)
    ≡ map touch_in l.initial.touches ++ decls_touches (around_in l.around) (map view.decl l.declarations)

abbrev pub decreases-loop-left : goal.decreases-loop-left
decreases-loop-left l = length l.left
